pub mod Crews
pub mod Runs
pub mod Verifying
