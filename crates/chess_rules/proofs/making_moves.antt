-- Moves taken back: lemmas for this crate alone.
pub mod Back
