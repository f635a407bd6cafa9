pub mod Held
pub mod Most
pub mod Turn
pub mod Planes
pub mod Whole
pub mod Fan
pub mod Lighter
pub mod Reached
