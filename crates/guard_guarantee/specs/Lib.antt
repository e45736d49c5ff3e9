pub mod Guarantee
pub mod Demand1
pub mod Demand2
pub mod Chains
