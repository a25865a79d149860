-- The words of private clauses, of this crate or of one above: nothing public is said by them.
pub mod Boxes
pub mod Counts
pub mod Table
