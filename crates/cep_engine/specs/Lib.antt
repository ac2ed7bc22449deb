pub mod Standing
pub mod State
pub mod Small
pub mod Reach
pub mod Running
pub mod Tips
