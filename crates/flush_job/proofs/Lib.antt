pub mod Keeping
pub mod Walking
pub mod Stripping
pub mod Pushes
pub mod Collected
