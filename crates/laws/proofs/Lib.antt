pub mod Bools
pub mod Cells
pub mod Fill
pub mod Paste
pub mod Bits
pub mod Integers
pub mod Ring
pub mod Bound
