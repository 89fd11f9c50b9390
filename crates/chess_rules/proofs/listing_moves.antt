-- How the search finds the legal moves in order: lemmas for this crate alone.
pub mod Calls
pub mod Counts
pub mod SurelyLegal
pub mod OtherMoves
