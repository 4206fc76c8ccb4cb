pub mod CaseLaws
pub mod AnswerLaws
pub mod LayingLaws
pub mod RunningLaws
