pub mod UseLaws
pub mod FileLaws
