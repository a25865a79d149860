pub mod Calls
pub mod CrashLaws
pub mod Entries
mod GhostWalks
pub mod Images
pub mod LaidOver
pub mod Leaving
pub mod Moments
pub mod NameLaws
pub mod Picks
mod Rows
pub mod Sparing
pub mod Steps
pub mod Walks
pub mod WholeRead
pub mod Writing
