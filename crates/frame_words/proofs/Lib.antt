pub mod WordLaws
pub mod CalledLaws
pub mod TextLaws
