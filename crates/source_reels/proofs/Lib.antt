pub mod Heads
pub mod KeyLaws
mod Faults
mod Paths
mod PlaceLaws
mod Rows
