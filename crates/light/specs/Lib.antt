pub mod Light
pub mod Either
