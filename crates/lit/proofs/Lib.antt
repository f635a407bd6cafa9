pub mod Traps
pub mod Sums
