pub mod Kinds
pub mod Nodes
pub mod Refusals
pub mod Rule
pub mod Props
pub mod Words
