pub mod Commands
pub mod pops
pub mod pops_part
pub mod pops_tries
