pub mod Parts
pub mod PathForms
pub mod Walks
pub mod laws
