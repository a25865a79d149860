pub mod Rows
pub mod PictureLaws
pub mod SpeedLaws
pub mod TitleLaws
