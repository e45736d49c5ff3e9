pub mod Buckets
pub mod Climbs
pub mod Parents
pub mod laws
