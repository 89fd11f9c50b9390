pub mod Left
pub mod Plain
pub mod Reading
pub mod Runs
pub mod Texts
pub mod Trials
