pub mod Draw
pub mod Lines
pub mod Named
pub mod Read
pub mod Records
pub mod Summary
