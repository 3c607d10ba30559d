pub mod Finite
pub mod Part
