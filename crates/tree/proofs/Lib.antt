pub mod Chains
pub mod Finding
pub mod Laying
pub mod Meaning
pub mod Parts
pub mod Values
pub mod Writing
