pub mod ChunkTable
pub mod ExtentsState
pub mod Proved
