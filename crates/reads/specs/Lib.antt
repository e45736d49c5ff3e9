pub mod Begun
pub mod Taken
pub mod laws
