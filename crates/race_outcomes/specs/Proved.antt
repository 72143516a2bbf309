pub mod Recorded
pub mod Search
pub mod Spots
pub mod Tellings
