pub mod HandledLaws
pub mod MoveLaws
