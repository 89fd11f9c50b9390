pub mod Game
pub mod Chess
pub mod Walks
pub mod ties
