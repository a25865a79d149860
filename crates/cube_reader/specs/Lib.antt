pub mod Table
pub mod Entry
pub mod Text
pub mod inside
