pub mod Fitting
pub mod Deeds
pub mod Handling
