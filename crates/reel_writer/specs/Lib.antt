pub mod Calls
pub mod Changes
pub mod Damage
pub mod Reads
pub mod Reel
pub mod View
pub mod inside
