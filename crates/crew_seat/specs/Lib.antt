pub mod Seats
pub mod Stepped
pub mod Worked
pub mod inside
