pub mod BracketExamples
pub mod BracketLaws
pub mod Laws
pub mod Units
pub mod UnitsAppend
