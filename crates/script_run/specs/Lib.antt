pub mod Runs
pub mod ToldOf
pub mod Fits
pub mod Proved
