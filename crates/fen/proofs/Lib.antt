pub mod Basics
pub mod LettersOfMen
pub mod Steps
pub mod Loop
pub mod Castlings
pub mod Ranks
pub mod Fields
pub mod Written
