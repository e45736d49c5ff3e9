pub mod NameChecks
pub mod laws
