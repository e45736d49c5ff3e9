pub mod Sha256
pub mod Streaming
pub mod Padding
pub mod laws
