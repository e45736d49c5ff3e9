pub mod JudgedLaws
pub mod PremiseLaws
pub mod ReasonLaws
pub mod TakenLaws
