pub mod HereLemmas
pub mod CallLemmas
pub mod RunLemmas
pub mod SeatLemmas
pub mod FitsLemmas
pub mod GoingLemmas
pub mod ClosingLemmas
pub mod ToldLemmas
