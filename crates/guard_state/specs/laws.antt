pub mod StageLaws
pub mod WaitLaws
pub mod OnwardLaws
pub mod Changes
pub mod LoadedLaws
pub mod Ranges
pub mod PendingLaws
pub mod Zeros
