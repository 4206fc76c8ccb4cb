pub mod Removals
pub mod Searching
