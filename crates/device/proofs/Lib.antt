pub mod Verdicts
pub mod Windows
pub mod Turns
pub mod Untaken
pub mod Shapes
pub mod Answers
