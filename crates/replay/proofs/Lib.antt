pub mod Fits
pub mod Lines
pub mod TextLaws
pub mod InPlay
pub mod JobText
pub mod WholeCase
pub mod OneAnswer
