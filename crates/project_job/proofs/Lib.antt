mod Counted
pub mod Laws
pub mod Loading
pub mod Projects
pub mod Reading
mod Reaching
