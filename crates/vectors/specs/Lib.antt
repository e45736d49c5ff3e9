pub mod Monte
pub mod laws
