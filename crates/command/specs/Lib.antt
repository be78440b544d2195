pub mod Outcome
pub mod Opcode
pub mod Table
pub mod Flags
pub mod Header
pub mod Faults
pub mod Frame
pub mod Report
