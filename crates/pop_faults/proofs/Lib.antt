pub mod Excluded
pub mod Listed
pub mod theorems
