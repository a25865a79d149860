pub mod Laws
pub mod Reels
pub mod Seen
pub mod inside
