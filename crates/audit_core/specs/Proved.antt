pub mod Judging
pub mod Inside
pub mod Taking
pub mod Laws
