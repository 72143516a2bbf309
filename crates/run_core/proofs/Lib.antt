pub mod ReceiptLemmas
pub mod ClosingLemmas
pub mod JoinLemmas
pub mod JudgedLemmas
pub mod LeftLemmas
pub mod StarterLemmas
pub mod OwnedLemmas
