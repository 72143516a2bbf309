pub mod Masks
pub mod Waits
pub mod Joined
