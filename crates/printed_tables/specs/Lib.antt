pub mod Plan
pub mod Pull
pub mod Table
