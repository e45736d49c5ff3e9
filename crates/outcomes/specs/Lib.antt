pub mod Values
pub mod Sent
pub mod Started
pub mod Answered
pub mod Clauses
pub mod laws
