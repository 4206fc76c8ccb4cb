pub mod Stretches
pub mod Rolling
