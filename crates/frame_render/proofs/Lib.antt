pub mod Bands
pub mod Colours
pub mod Filled
pub mod HandedIn
pub mod Lines
mod Rows
pub mod Sizes
