pub mod Blanks
pub mod Groups
pub mod Numbers
pub mod Pieces
pub mod Pushed
pub mod Reading
pub mod Stopping
pub mod Words
