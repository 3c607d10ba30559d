pub mod Circled
pub mod Circles
pub mod AngleSums
pub mod Ready
