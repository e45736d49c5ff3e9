pub mod Asked
pub mod Ended
pub mod Sending
pub mod Fetched
pub mod Clauses
pub mod laws
