pub mod Fronts
pub mod Parts
pub mod Writing
pub mod Entries
pub mod Lists
