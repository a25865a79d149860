pub mod Asks
pub mod Ends
pub mod Loading
pub mod Scanned
pub mod Sharing
pub mod inside
