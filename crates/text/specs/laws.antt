pub mod DecimalLaws
pub mod DigitLaws
pub mod HexCases
pub mod HexLaws
pub mod LineLaws
pub mod PlaceLaws
