pub mod Numbers
pub mod Segment
pub mod Gathered
pub mod Added
