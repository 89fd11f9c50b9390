pub mod Lines
pub mod Outward
pub mod Occupancy
pub mod Taking
