pub mod TracerInside
pub mod Tracing
pub mod Migrating
