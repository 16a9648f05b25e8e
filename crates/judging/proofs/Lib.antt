pub mod Agreement
pub mod RecordLaws
