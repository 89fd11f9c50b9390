pub mod Notation
pub mod Heads
pub mod Moves
pub mod Events
pub mod Faults
pub mod Tries
