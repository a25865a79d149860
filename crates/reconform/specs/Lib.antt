pub mod Adopt
pub mod Donor
pub mod Laws
pub mod Plan
pub mod Taken
pub mod inside
