pub mod Judged
pub mod Begun
pub mod laws
