pub mod Paints
pub mod Commands
pub mod Control
pub mod Kept
