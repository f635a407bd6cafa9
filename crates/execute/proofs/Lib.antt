pub mod Laws
pub mod Told
pub mod Reasons
pub mod Formed
pub mod Painted
pub mod Executed
pub mod Traps
