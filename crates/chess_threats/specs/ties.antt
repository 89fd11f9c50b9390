pub mod KingAttack
pub mod LastingFlights
pub mod Threats
