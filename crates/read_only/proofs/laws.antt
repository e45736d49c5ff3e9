pub mod ClaimLaws
pub mod LifeLaws
pub mod OutcomeLaws
pub mod RunLaws
pub mod StepLaws
