pub mod Compared
pub mod Products
pub mod Zeros
pub mod Sizes
