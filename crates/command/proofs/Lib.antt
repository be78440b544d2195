pub mod Opcodes
pub mod Sizes
pub mod Agree
pub mod Outcomes
