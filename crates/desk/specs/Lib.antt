pub mod Answered
pub mod Session
pub mod laws
