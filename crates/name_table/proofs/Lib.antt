pub mod CompareLaws
pub mod NameLaws
