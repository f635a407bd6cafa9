pub mod Three
pub mod Sums
pub mod Matrices
pub mod Normals
