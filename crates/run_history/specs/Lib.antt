pub mod Fronts
pub mod Law
