pub mod ExitStatus
pub mod Report
pub mod Run
pub mod Laws
pub mod ties
