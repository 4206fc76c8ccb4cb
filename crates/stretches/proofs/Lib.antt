pub mod SumLaws
pub mod LargestLaws
pub mod StepLaws
pub mod Window
pub mod Whole
pub mod Meaning
