pub mod Operations
pub mod Tests
pub mod Whole
