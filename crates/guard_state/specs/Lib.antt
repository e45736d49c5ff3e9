pub mod Calls
pub mod State
pub mod Waits
pub mod Onward
pub mod laws
