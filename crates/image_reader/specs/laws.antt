pub mod PlaceLaws
pub mod ApartLaws
pub mod RootedLaws
