pub mod Tests
pub mod Sizes
pub mod Lengths
pub mod Bad
pub mod Accepted
pub mod Front
pub mod InTurn
