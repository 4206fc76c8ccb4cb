pub mod LinesLaws
pub mod KnownLaws
pub mod ShowingLaws
pub mod HandingLaws
pub mod FillingLaws
pub mod RunningLaws
pub mod SpeakingLaws
