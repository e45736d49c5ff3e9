pub mod DescriptorLaws
pub mod HandleLaws
pub mod OpenLaws
pub mod OpenedLaws
pub mod StartedLaws
