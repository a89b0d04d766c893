pub mod Heads
pub mod Folds
pub mod Reading
pub mod Files
pub mod Folders
pub mod Answers
pub mod Manifest
pub mod Making
