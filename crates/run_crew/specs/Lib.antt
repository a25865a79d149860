pub mod Crews
pub mod inside
