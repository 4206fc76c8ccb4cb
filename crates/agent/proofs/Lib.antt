pub mod PowerUpLaws
pub mod WholeLaws
pub mod CallLaws
