pub mod Computed
pub mod Examples
pub mod Lives
pub mod Readers
