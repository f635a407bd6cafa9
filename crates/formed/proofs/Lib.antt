mod Walks
mod Split
mod Marks
