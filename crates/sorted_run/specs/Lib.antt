pub mod Runs
pub mod Sorts
