pub mod Prefixes
pub mod Adding
