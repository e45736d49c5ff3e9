pub mod JudgedLaws
pub mod PageLaws
pub mod ReadLaws
pub mod TakenLaws
