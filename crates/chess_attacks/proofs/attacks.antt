-- What attacks a square.
pub mod Attacking
