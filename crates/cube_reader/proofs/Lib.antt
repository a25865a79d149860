pub mod MoreLaws
pub mod WordLaws
pub mod KeywordLaws
pub mod KnowsLaws
pub mod FaultLaws
pub mod ReadLaws
pub mod TableLaws
pub mod EndLaws
mod Rows
