pub mod Cycles
pub mod Loading
