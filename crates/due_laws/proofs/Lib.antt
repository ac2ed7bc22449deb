pub mod DueLaws
pub mod ToldLaws
pub mod OpenLaws
pub mod GroupLaws
