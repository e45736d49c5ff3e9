pub mod CreatedLaws
pub mod IdLaws
pub mod NameLaws
pub mod NewLaws
