pub mod BusCalls
pub mod Journey
pub mod Windows
pub mod Cases
pub mod Grounds
pub mod Skips
pub mod Striking
