pub mod Lexeme
pub mod Terminal
pub mod Reading
pub mod Rule
pub mod Cursor
