pub mod Sprite
pub mod Spans
pub mod Words
