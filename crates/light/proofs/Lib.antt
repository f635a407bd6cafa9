pub mod Walk
pub mod Zeros
pub mod Alike
pub mod Either
