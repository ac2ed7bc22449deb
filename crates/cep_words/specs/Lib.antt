pub mod Number
pub mod Reading
pub mod Read
pub mod Words
pub mod App
