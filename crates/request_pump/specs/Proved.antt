pub mod Pushing
pub mod Pumping
