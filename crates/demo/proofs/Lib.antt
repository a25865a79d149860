pub mod Answering
mod FrameAsks
pub mod Fresh
mod JobAccepted
pub mod Joins
mod LineReads
mod LineWords
mod ListEvents
mod ListRows
mod ListState
mod ListText
pub mod Loops
pub mod Printed
pub mod Printing
mod ProjectMeans
mod ProjectText
pub mod Reels
mod Rows
mod RowsTimeline
mod SourceFiles
mod SourceHeads
mod SpacedTokens
