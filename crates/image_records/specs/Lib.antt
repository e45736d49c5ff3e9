pub mod Records
pub mod Formed
pub mod laws
pub mod Laid
