pub mod Uploads
pub mod Slots
