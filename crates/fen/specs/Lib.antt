pub mod Letters
pub mod Fen
pub mod ties
