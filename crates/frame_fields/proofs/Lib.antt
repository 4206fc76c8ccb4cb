pub mod RowLaws
pub mod FrameBothWays
pub mod WidthLaws
