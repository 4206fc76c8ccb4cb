pub mod Kept
pub mod Whole
pub mod CyclesLaws
