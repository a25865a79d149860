-- The words of private clauses, of this crate or of one above: nothing public is said by them.
pub mod Ahead
pub mod Changes
pub mod Damage
pub mod Reel
