pub mod Back
pub mod Laws
