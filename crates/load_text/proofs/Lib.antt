pub mod ShareLaws
pub mod PrintingLaws
