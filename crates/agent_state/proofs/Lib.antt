pub mod RefusalLaws
pub mod LowNumbers
pub mod SourceLoops
pub mod SoundLaws
