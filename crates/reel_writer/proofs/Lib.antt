mod Checking
pub mod Finishing
pub mod Keeping
pub mod OwnFiles
pub mod ReadCalls
pub mod ReelLaws
pub mod Once
mod Rooms
pub mod Writing
