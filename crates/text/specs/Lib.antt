pub mod Hex
pub mod Decimal
pub mod Lines
pub mod Putting
pub mod BadLines
pub mod Texts
