pub mod ListLaws
pub mod GivenLaws
pub mod FoundLaws
pub mod OnceLaws
pub mod EndLaws
