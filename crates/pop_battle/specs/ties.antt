pub mod Calls
pub mod Counts
pub mod Frames
pub mod Marks
pub mod Skipping
pub mod Values
