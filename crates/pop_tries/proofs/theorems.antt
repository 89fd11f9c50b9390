-- What the definitions mean, for readers: theorems for every game, all sets of rules and both goals.
pub mod Refutations
pub mod Threats
pub mod Shown
pub mod Problems
