pub mod Asked
pub mod Jobs
pub mod Laws
pub mod Load
pub mod Texts
pub mod inside
