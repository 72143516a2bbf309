pub mod SlotLaws
pub mod EntryLaws
pub mod UseLaws
pub mod KeyLaws
