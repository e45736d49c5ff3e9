pub mod RemoveLaws
pub mod RemovedLaws
