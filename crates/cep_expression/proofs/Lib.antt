pub mod Signs
pub mod Expressions
