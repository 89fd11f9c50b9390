-- Bitboards of the squares that block lines: lemmas for this crate alone.
pub mod Riding
