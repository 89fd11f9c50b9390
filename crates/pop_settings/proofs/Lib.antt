pub mod Basics
pub mod Matching
pub mod Numbers
pub mod Excluded
