pub mod Closest
pub mod Gaps
pub mod Grid
pub mod Rounding
pub mod Fitting
pub mod Only
pub mod Examples
