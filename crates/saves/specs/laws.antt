pub mod SavedLaws
pub mod LoadedLaws
