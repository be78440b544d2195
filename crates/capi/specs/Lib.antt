pub mod Image
pub mod Report
pub mod Calls
pub mod Inverse
pub mod Follows
pub mod Imaged
pub mod OneAnswer
