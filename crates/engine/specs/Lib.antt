pub mod Brackets
pub mod Units
