pub mod Handed
pub mod laws
