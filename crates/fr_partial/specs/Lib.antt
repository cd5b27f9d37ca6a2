pub mod Builder
pub mod Common
pub mod Given
pub mod ReadAs
pub mod Several
pub mod Spots
pub mod Typed
