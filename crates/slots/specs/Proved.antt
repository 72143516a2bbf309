pub mod Entries
pub mod Lends
pub mod Uses
pub mod Keys
pub mod KeyedLends
