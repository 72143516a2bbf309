pub mod Writes
pub mod Pieces
