pub mod FormLaws
pub mod DoingLaws
pub mod LineShown
pub mod GoodLines
