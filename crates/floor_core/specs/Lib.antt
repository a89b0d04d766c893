pub mod Cores
pub mod Machine
pub mod Steps
pub mod Runs
