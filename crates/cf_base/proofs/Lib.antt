pub mod DecimalLaws
pub mod DigitLaws
pub mod FileIdLaws
pub mod FirstLaws
pub mod LineLaws
pub mod RangeLaws
pub mod StepLaws
pub mod TextLaws
pub mod TextParts
pub mod TimingLaws
pub mod TokenLaws
mod Capped
mod Marks
mod Rounding
mod Rows
mod Sizes
