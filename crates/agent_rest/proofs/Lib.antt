pub mod ClockLaws
pub mod RestLaws
