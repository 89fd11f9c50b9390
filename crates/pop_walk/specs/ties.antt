pub mod Beginnings
pub mod Counts
pub mod Phases
pub mod Modes
pub mod Seen
pub mod Walk
