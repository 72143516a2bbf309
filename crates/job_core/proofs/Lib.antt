pub mod OutputLemmas
pub mod ReadsLemmas
pub mod ReplayLemmas
pub mod RunLemmas
pub mod AuditLemmas
pub mod MigrateLemmas
pub mod ShowLemmas
pub mod RaceLemmas
