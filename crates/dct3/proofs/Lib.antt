pub mod Inner
pub mod Fit
