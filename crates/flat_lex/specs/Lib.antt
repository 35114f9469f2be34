pub mod Pieces
pub mod Literals
