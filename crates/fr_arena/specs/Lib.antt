pub mod Arenas
pub mod BitSets
pub mod Chunks
pub mod Ranges
pub mod Ropes
pub mod Words
