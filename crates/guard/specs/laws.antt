pub mod NumberLaws
pub mod Tested
pub mod EventLaws
pub mod FrontLaws
pub mod EntryLaws
pub mod KeptLaws
pub mod ZeroLaws
pub mod ReaderLaws
