pub mod Closed
pub mod Laws
