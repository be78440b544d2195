pub mod Fresh
pub mod Turn
pub mod Answer
pub mod Untaken
