pub mod ReplyLaws
pub mod SendingLaws
pub mod InPlaceLaws
