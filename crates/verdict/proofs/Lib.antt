pub mod Checks
pub mod First
