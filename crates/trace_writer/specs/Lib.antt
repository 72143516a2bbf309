pub mod Traces
pub mod Migrations
pub mod Memory
pub mod MigrationState
pub mod TracerState
pub mod Proved
