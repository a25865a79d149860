mod Adding
mod Adds
mod Asking
mod Begins
mod Cutting
mod Drawn
mod Lines
mod Peaks
mod Pictures
mod Reading
mod Rows
pub mod SheetLaws
mod Squares
