pub mod Made
pub mod Printing
