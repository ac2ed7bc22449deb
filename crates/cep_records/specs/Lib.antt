pub mod Causes
pub mod Number
pub mod Bare
pub mod Record
pub mod Numbered
