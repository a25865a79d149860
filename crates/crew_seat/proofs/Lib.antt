pub mod Seating
pub mod Stepping
pub mod Working
