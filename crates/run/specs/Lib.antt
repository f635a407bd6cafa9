pub mod Framing
pub mod Whole
pub mod Sound
