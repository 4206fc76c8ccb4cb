pub mod CallBytesLaws
pub mod LogLaws
pub mod RunLaws
