pub mod Said
pub mod Built
pub mod Explained
