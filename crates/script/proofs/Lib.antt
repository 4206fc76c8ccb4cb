pub mod LentLaws
pub mod PlayingLaws
pub mod HeaderLaws
pub mod ScriptGood
