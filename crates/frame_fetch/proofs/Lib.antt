pub mod Asking
pub mod Counting
pub mod Fetching
mod Heads
pub mod Logs
pub mod Scanning
pub mod Shared
pub mod Tellings
