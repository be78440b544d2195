pub mod Shape
pub mod Checks
pub mod Work
pub mod Perform
