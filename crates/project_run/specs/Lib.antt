pub mod Calls
pub mod Look
pub mod Quality
pub mod Run
pub mod Sheet
pub mod Status
pub mod Sums
pub mod Verify
