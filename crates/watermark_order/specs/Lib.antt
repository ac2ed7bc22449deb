pub mod Sooner
pub mod Reached
pub mod Held
pub mod Order
