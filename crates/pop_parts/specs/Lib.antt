pub mod PhaseParts
pub mod Parts
pub mod Runs
pub mod ties
