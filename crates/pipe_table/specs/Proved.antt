pub mod Places
pub mod Pipes
