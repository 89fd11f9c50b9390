pub mod Excluded
pub mod Filled
pub mod Showing
pub mod theorems
