pub mod FaultList
pub mod ties
