pub mod Files
pub mod Heads
pub mod Leaving
mod Lookup
mod Rows
