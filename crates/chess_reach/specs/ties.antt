pub mod Guards
pub mod Hold
pub mod Whereabouts
pub mod Ways
