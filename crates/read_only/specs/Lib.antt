pub mod ReadOnly
pub mod Claim
pub mod Lives
