pub mod Under
pub mod Spans
pub mod Fits
pub mod Tones
pub mod Rows
pub mod Held
pub mod Cases
pub mod Only
