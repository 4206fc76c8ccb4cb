pub mod BodyLaws
