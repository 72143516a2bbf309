pub mod Refusals
pub mod Waits
