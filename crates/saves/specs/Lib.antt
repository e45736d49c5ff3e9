pub mod Saved
pub mod laws
