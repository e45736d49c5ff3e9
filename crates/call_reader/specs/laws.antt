pub mod FieldLaws
pub mod KindLaws
pub mod ReadLaws
pub mod RestLaws
