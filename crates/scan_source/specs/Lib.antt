pub mod Answers
pub mod Memory
pub mod Plan
pub mod Planned
pub mod Same
pub mod State
pub mod Turning
pub mod World
