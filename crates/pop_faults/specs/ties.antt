pub mod FaultRuns
pub mod ReadItems
