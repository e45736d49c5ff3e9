pub mod Called
pub mod laws
