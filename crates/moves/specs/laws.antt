pub mod NumberLaws
pub mod MoveLaws
