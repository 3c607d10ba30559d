pub mod Copied
pub mod OneReduction
