pub mod Stores
pub mod DecimalLaws
pub mod OneAnswer
