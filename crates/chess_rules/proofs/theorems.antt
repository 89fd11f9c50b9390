-- What the definitions mean: theorems for readers, for all sets of rules.
pub mod Moves
