pub mod Types
pub mod Uses
pub mod Pipes
pub mod Targets
pub mod Consistent
pub mod Room
