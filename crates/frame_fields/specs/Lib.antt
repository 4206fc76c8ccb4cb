pub mod Rows
pub mod Numbers
