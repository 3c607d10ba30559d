pub mod Ready
pub mod Sums
