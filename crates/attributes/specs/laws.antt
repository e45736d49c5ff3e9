pub mod ChangedLaws
pub mod ReachLaws
pub mod StatLaws
