pub mod Chunks
pub mod Contents
