pub mod RingInside
pub mod Trace
