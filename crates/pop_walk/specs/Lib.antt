pub mod Tree
pub mod Events
pub mod Walks
pub mod ties
