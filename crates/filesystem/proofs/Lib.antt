pub mod LayoutLaws
pub mod LayoutsApart
