pub mod Apart
pub mod Faults
pub mod FewParts
pub mod FieldsKept
pub mod FirstDeclared
pub mod InTurn
pub mod KeysApart
pub mod NoneTwice
mod Once
pub mod Ordered
pub mod Parsed
pub mod Settled
pub mod TakenNames
