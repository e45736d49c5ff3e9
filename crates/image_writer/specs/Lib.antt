pub mod Images
pub mod laws
