pub mod CommentLaws
pub mod Edits
pub mod Examples
pub mod Fronts
pub mod RewritingLaws
pub mod UnchangedLaws
pub mod Utf8Laws
