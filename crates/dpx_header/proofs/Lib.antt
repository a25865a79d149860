mod Choice
pub mod Header
pub mod ReadBack
mod Rows
pub mod Table
