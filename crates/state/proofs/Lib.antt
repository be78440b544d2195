pub mod Seeks
pub mod Limits
pub mod Places
pub mod Totals
pub mod PlusOne
