pub mod Serve
pub mod Perform
pub mod Proved
