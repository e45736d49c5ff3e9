pub mod Loaded
pub mod laws
