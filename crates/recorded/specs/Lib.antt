pub mod Piece
pub mod Fresh
pub mod Turn
pub mod Call
