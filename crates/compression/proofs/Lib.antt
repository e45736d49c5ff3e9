pub mod Bits
pub mod Congruence
pub mod Rotations
pub mod Windows
