pub mod Lent
pub mod Playing
