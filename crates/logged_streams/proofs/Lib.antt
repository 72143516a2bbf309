pub mod WriteLemmas
pub mod ReadingLemmas
