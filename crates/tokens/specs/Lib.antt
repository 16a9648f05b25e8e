pub mod Classes
pub mod Cursor
pub mod Cut
pub mod Posix
pub mod Reads
pub mod Starts
pub mod Tokens
