pub mod Refusing
pub mod Room
