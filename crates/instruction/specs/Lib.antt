pub mod Rows
pub mod Decode
pub mod Meaning
pub mod Vectors
pub mod Effect
pub mod Operands
