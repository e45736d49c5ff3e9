pub mod FetchedLaws
pub mod BegunLaws
pub mod AskedLaws
pub mod EndedLaws
pub mod SendingLaws
