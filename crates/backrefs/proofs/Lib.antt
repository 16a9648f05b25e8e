pub mod Pairs
pub mod SubstitutionLaws
