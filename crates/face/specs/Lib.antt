pub mod Face
pub mod Pixel
pub mod Row
pub mod Source
