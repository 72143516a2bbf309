pub mod Over
pub mod Places
pub mod Rooms
pub mod Pieces
pub mod Rows
pub mod Tiers
