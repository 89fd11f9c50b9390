pub mod Stipulations
