pub mod RingSeen
pub mod RingState
pub mod Proved
