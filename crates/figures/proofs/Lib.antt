pub mod Ready
pub mod Figures
