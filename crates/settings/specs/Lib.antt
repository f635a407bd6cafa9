pub mod Settings
pub mod Clauses
