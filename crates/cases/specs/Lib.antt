pub mod Cases
pub mod Layings
