pub mod Accepted
pub mod Laws
pub mod Parts
pub mod Shots
pub mod inside
