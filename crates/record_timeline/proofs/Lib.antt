mod BuildLaws
mod CoverLaws
pub mod EndLaws
mod OverlapLaws
mod ReelLaws
mod Rows
pub mod Samples
mod ShotLaws
mod SpanLaws
