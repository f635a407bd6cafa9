pub mod Edge
pub mod Row
pub mod Tri
pub mod Drawing
pub mod Words
