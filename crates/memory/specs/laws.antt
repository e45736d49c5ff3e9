pub mod RecordLaws
pub mod MemLaws
pub mod FlatLaws
