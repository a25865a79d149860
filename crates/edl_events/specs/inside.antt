-- The words of private clauses, of this crate or of one above: nothing public is said by them.
pub mod Bare
pub mod Made
pub mod Reads
pub mod Rounds
pub mod Steps
pub mod Table
