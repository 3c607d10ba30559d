pub mod Unneeded
pub mod Accepted
pub mod OddCosines
