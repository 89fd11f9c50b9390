pub mod Reach
pub mod Plans
pub mod Lines
pub mod ties
