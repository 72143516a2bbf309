pub mod Acts
pub mod Events
pub mod Stirred
pub mod Sleepers
pub mod Watch
pub mod Reasons
pub mod Sleeping
