pub mod Bytes
pub mod Steps
pub mod Reading
pub mod Fronts
