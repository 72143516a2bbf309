pub mod Showing
pub mod Reading
pub mod Running
pub mod Racing
