pub mod Counted
pub mod Lent
pub mod Added
pub mod Printed
pub mod Cases
pub mod Sizes
