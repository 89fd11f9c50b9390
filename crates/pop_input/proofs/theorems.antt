-- What the definitions mean, for readers: theorems that hold for every input.
pub mod Entries
pub mod Inputs
pub mod FaultNumbers
