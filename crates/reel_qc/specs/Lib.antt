pub mod Counts
pub mod Reads
pub mod Sheet
pub mod Table
pub mod Tones
pub mod Words
pub mod inside
