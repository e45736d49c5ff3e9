pub mod FieldLaws
pub mod InputLaws
pub mod SaidLaws
