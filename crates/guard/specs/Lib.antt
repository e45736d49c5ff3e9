pub mod Promise
pub mod Entries
pub mod Numbers
pub mod laws
