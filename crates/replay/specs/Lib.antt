pub mod Text
pub mod Transcript
pub mod WholeCase
pub mod OneAnswer
