pub mod Laws
pub mod Joining
pub mod Closing
pub mod Starting
