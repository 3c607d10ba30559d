pub mod Searched
pub mod Accepted
