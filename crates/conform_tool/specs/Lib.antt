pub mod Conform
pub mod inside
