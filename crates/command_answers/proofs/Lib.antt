pub mod Answering
pub mod Completes
mod Demos
mod Frames
pub mod Headlines
mod Lists
mod Plans
mod Pulls
pub mod Replies
mod Wholes
