pub mod Number
pub mod Said
pub mod Refuse
