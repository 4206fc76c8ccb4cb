pub mod KindLaws
pub mod LentLaws
