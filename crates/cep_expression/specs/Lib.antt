pub mod Terminal
pub mod Grammar
pub mod Reader
pub mod Nests
