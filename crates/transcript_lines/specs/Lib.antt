pub mod Counted
pub mod Fields
pub mod Room
pub mod Said
pub mod laws
