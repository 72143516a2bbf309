pub mod PerformLemmas
mod ServeLemmas
