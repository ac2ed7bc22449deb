pub mod Piece
pub mod Tokens
pub mod Form
pub mod Content
pub mod Within
