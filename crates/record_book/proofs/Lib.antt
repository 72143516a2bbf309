pub mod ExitLemmas
pub mod HistoryLemmas
pub mod GrowLemmas
pub mod CountLemmas
pub mod OwnLemmas
pub mod PlanLemmas
