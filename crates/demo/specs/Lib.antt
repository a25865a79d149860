pub mod Counts
pub mod Demo
pub mod Files
pub mod Pictures
pub mod Texts
pub mod inside
