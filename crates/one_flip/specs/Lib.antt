pub mod OneFlip
