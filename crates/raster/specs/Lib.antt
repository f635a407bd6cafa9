pub mod Ink
pub mod Raster
pub mod Triangles
pub mod Steps
pub mod Source
