pub mod Operations
pub mod Zeros
pub mod Specials
pub mod Order
pub mod Conversions
pub mod Patterns
