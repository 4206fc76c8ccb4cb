pub mod Shares
pub mod Printing
