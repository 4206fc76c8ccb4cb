pub mod BuildingLaws
pub mod ExplainingLaws
pub mod BuiltText
pub mod FlagLaws
