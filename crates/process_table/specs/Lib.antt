pub mod Tables
pub mod Processes
pub mod Proved
