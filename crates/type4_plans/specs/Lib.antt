pub mod Lent
pub mod Routine
pub mod Sum
