pub mod Chars
pub mod Words
pub mod Table
pub mod Texts
pub mod Called
