pub mod RecordLaws
pub mod TestLaws
pub mod ParseLaws
