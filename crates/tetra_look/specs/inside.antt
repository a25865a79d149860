-- The words of private clauses, of this crate or of one above: nothing public is said by them.
pub mod Grid
pub mod Inside
pub mod Lanes
pub mod Look
pub mod Parts
pub mod Sums
pub mod Ways
pub mod Words
