pub mod StoredPages
pub mod PathRequests
pub mod Room
pub mod laws
