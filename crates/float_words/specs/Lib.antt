pub mod Words
pub mod Routine
pub mod Replayed
