pub mod AnsweredLaws
pub mod SessionLaws
