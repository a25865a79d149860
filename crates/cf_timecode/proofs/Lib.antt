pub mod Laws
pub mod Parsed
pub mod Shape
pub mod Rows
pub mod Spelled
