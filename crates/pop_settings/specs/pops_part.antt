pub mod Numbers
pub mod CommandLine
