pub mod Leaving
pub mod Marks
pub mod Needed
pub mod Station
pub mod StationSteps
pub mod inside
