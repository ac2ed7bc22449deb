pub mod Reading
pub mod Checked
pub mod Answers
pub mod Usable
