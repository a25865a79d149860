mod Answering
mod Asking
mod Donating
mod Dressing
mod Going
mod Holding
pub mod Painting
mod PlanOrder
mod Planning
mod Ranges
mod Serving
mod Stepping
mod Taking
