pub mod MoveSets
pub mod Candidates
pub mod FewPlaces
pub mod Contests
pub mod FirstMoves
pub mod Searching
pub mod Starts
