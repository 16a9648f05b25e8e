pub mod Classes
pub mod Cut
pub mod CutEach
pub mod Lists
pub mod PosixLaws
pub mod Starts
pub mod Tokens
