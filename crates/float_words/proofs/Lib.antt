pub mod Bits
pub mod Pairs
pub mod Read
