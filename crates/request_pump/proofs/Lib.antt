pub mod InputLemmas
pub mod PushLemmas
pub mod PumpLemmas
pub mod ReadLemmas
pub mod RingLemmas
pub mod OverLemmas
