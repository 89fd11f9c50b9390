pub mod Tries
pub mod Events
pub mod Shown
pub mod Laws
pub mod ties
