pub mod Endings
pub mod Examples
