pub mod Parses
pub mod RequiredOptions
