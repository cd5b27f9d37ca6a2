pub mod TokenlessSlots
