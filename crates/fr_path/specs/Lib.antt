pub mod Order
pub mod OrderLaws
pub mod PathText
pub mod StepShapes
