pub mod Section
pub mod Sections
pub mod Kernels
pub mod Checks
pub mod Parts
pub mod Fault
pub mod Parse
pub mod WholeCase
