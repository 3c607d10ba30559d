pub mod Short
pub mod Changed
pub mod Sums
