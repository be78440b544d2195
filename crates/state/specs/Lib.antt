pub mod Edition
pub mod PlusOne
pub mod Slots
pub mod Counts
pub mod Device
pub mod Refusal
pub mod Ready
