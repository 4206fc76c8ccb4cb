pub mod Lines
pub mod Programs
pub mod Showing
pub mod Speaking
pub mod Handing
pub mod Blocks
