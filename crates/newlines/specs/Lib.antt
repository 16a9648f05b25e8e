pub mod Newlines
