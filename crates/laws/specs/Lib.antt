pub mod Cells
pub mod Determines
pub mod Within
