pub mod Json
pub mod Scripts
pub mod Proved
