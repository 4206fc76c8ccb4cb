pub mod Printing
pub mod Reading
