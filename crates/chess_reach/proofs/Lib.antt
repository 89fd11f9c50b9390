pub mod Chess
pub mod EmptyBoard
pub mod Sums
pub mod OneMove
pub mod Gone
pub mod Picture
pub mod Standing
pub mod Castling
pub mod Lines
pub mod KingMoves
pub mod LineEnds
mod Bitboards
mod Parts
mod Getting
mod Chains
mod Returning
mod Resting
mod Holding
mod Guarding
mod Trying
mod Blocking
mod Listing
mod Planning
mod Prey
mod Shifts
pub mod theorems
