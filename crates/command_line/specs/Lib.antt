pub mod CommandLine
pub mod Proved
