-- The words of private clauses, of this crate or of one above: nothing public is said by them.
pub mod CallCode
pub mod Crash
pub mod Disk
pub mod Memory
pub mod Names
pub mod Noted
