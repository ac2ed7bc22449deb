pub mod Asked
pub mod Chain
pub mod Known
pub mod Listed
