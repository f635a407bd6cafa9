pub mod Pixels
pub mod Places
pub mod Echo
pub mod Tile
pub mod Draw
pub mod Cases
