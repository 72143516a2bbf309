pub mod UseLaws
pub mod BlockLaws
