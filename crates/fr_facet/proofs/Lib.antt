mod FirstLaws
mod ListLaws
mod PassedOver
mod StructParts
mod StructsInStep
