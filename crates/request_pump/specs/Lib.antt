pub mod Bells
pub mod Input
pub mod Pump
pub mod Pushes
pub mod Proved
