pub mod TraceLemmas
pub mod MigrationLemmas
pub mod MigratingLemmas
