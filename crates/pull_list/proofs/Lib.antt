mod Fewest
mod Frames
mod Merging
mod Needed
mod Order
mod Sorting
mod Unique
