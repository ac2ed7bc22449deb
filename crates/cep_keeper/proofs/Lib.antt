pub mod BackLaws
pub mod CountLaws
pub mod NoteLaws
pub mod RestoreLaws
pub mod SaidLaws
pub mod StorableLaws
pub mod StoredLaws
pub mod TallyLaws
