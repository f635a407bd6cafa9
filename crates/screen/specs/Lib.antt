pub mod Dither
pub mod Plane
pub mod Depths
pub mod Draw
