pub mod Meaning
pub mod laws
