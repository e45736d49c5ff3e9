pub mod RemoveChecks
pub mod laws
