mod Asking
mod Cutting
mod Digests
mod Ending
mod Growing
pub mod Heads
mod Judging
mod KeyOrder
mod Needed
mod Placed
mod Planning
mod Rows
mod Turns
