pub mod Ring
pub mod Blocks
pub mod Proved
