-- The words of private clauses, of this crate or of one above: nothing public is said by them.
pub mod Frame
pub mod Lines
pub mod Pictures
