pub mod Records
pub mod Layout
pub mod Memories
pub mod laws
