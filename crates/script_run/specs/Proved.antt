pub mod Inside
pub mod Going
pub mod Closing
pub mod Staying
