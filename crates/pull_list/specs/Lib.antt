pub mod Laws
pub mod Pull
pub mod inside
