pub mod Memories
pub mod Table
