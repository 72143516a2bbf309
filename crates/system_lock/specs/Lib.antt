pub mod Kernel
pub mod Owns
pub mod Says
pub mod System
pub mod Proved
