pub mod Turns
pub mod Listed
pub mod Sums
pub mod Residues
pub mod Entries
