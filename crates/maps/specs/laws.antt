pub mod Numbers
pub mod Table
pub mod JudgedLaws
pub mod AnsweredLaws
