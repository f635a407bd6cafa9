pub mod Formed
pub mod Slots
pub mod Clauses
