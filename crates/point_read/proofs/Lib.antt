pub mod Newer
pub mod Whole
