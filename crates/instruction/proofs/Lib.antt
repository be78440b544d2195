pub mod Effects
pub mod OperandLaws
