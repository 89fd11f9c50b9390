pub mod Blanks
pub mod theorems
pub mod Excluded
