pub mod CallBytes
pub mod Log
