pub mod Arithmetic
pub mod Call
pub mod Accepted
