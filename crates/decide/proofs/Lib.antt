pub mod Finite
pub mod Decided
pub mod Always
pub mod Traps
