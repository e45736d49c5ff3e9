pub mod FoundLaws
pub mod SearchLaws
pub mod ContentLaws
pub mod ViewLaws
pub mod ChangeLaws
pub mod RowsInUse
