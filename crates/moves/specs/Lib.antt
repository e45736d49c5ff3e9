pub mod Moves
pub mod laws
