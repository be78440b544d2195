pub mod Put
pub mod Decimal
pub mod Line
pub mod OneAnswer
