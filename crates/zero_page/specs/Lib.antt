pub mod ZeroPage
pub mod laws
