pub mod Colours
pub mod Front
mod Lines
pub mod Parts
mod Rows
