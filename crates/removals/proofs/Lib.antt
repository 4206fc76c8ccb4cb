pub mod TextLines
pub mod PlayingLaws
pub mod SearchingLaws
pub mod Whole
pub mod Meaning
