-- The words of private clauses, of this crate or of one above: nothing public is said by them.
pub mod Adopt
pub mod Ahead
pub mod Asking
pub mod Donor
pub mod Parts
