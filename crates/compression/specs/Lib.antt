pub mod Compression
pub mod Windows
