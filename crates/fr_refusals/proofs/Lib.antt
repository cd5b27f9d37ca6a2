pub mod BegunLooks
pub mod LastIsThere
