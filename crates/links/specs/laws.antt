pub mod BucketLaws
pub mod ClimbLaws
pub mod ParentLaws
