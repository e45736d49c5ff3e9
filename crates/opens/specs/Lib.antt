pub mod OpenChecks
pub mod Moved
pub mod laws
