pub mod ListChecks
pub mod Listing
pub mod laws
