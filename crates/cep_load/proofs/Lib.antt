pub mod ByteLaws
pub mod LineLaws
pub mod ReadLaws
pub mod TextLaws
