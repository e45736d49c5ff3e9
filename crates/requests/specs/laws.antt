pub mod Heads
pub mod PathRequestsLaws
pub mod StoredPageLaws
