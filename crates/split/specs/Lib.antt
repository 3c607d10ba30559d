pub mod Served
pub mod Ready
pub mod Tabled
pub mod Serving
