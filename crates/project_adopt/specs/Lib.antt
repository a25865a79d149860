pub mod Adopt
pub mod Heads
pub mod inside
