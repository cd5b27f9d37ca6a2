pub mod OwnHookLaws
pub mod OwnHooks
