pub mod Changes
pub mod Levels
pub mod Halves
pub mod Numbers
pub mod Results
pub mod Parts
pub mod Lent
