pub mod StoredFiles
pub mod Proved
