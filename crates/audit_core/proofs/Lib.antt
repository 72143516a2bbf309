pub mod JudgeLemmas
pub mod TraceLemmas
pub mod TakingLemmas
pub mod AuditLemmas
pub mod LawLemmas
pub mod FramedLemmas
pub mod WrittenLemmas
