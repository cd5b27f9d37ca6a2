pub mod CallLaws
pub mod CopyLaws
pub mod GivenLaws
pub mod ReadingAsLaws
pub mod SeveralLaws
pub mod SpotLaws
pub mod StartLaws
