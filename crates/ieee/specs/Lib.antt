pub mod Units
pub mod Words
pub mod Range
pub mod Casts
pub mod Box
pub mod Root
pub mod Number
