pub mod Reduce
pub mod Opposite
pub mod Shift
