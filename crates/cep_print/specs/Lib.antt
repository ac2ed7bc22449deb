pub mod Literal
pub mod Expression
pub mod File
pub mod Same
pub mod SameFile
pub mod ReadBack
