pub mod Aims
pub mod CheckSquares
pub mod Idle
pub mod KnownFlights
pub mod MatingPlaces
pub mod Parries
pub mod StandingFlights
