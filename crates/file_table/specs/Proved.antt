pub mod Files
pub mod Lends
