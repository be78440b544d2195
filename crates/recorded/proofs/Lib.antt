pub mod Pieces
pub mod Makings
pub mod Turns
