pub mod Causes
pub mod Feed
pub mod Kept
pub mod Lines
