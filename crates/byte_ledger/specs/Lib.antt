pub mod Counted
pub mod Tally
pub mod Merged
