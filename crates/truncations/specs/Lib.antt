pub mod Shrinking
pub mod laws
