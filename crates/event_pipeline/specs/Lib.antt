pub mod Told
pub mod Telling
pub mod Running
pub mod Ticks
pub mod Handled
pub mod Shown
