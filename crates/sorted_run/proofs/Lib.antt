pub mod Finds
pub mod Keys
pub mod Lookups
pub mod Sorting
