pub mod Storing
pub mod Collects
