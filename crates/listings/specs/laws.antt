pub mod ListedLaws
pub mod ListingLaws
pub mod ReaddirLaws
