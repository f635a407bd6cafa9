pub mod Corners
pub mod Verdicts
