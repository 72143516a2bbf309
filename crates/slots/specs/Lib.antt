pub mod Slots
pub mod NumberedSlots
pub mod KeyedSlots
pub mod UsedSlots
pub mod Proved
