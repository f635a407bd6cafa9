pub mod Polygons
pub mod Vertices
