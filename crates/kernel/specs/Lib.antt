pub mod Registers
pub mod Thread
pub mod Step
pub mod Run
pub mod Dispatch
pub mod Site
pub mod Examples
