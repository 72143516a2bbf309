pub mod Trace
pub mod Verdict
pub mod Audited
pub mod Auditing
pub mod JudgeSeen
pub mod JudgeState
pub mod TraceState
pub mod Proved
