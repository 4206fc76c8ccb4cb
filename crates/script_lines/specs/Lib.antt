pub mod Forms
pub mod Doing
