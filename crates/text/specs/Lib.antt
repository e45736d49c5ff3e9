pub mod Hex
pub mod Decimal
pub mod Line
pub mod Ascii
pub mod Digits
pub mod laws
