pub mod Judged
pub mod Ways
pub mod Begun
pub mod laws
