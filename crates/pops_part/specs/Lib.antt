pub mod ExitStatus
pub mod Runs
pub mod ties
