pub mod Endings
pub mod Laws
pub mod Steps
pub mod Told
