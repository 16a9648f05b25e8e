pub mod CaptureLaws
pub mod Marks
