pub mod LineLaws
pub mod Spelled
pub mod Printing
pub mod Writing
pub mod Examples
