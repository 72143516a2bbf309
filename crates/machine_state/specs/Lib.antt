pub mod Held
pub mod StoredPipes
pub mod Proved
