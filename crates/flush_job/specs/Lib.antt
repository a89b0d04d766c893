pub mod Feeds
pub mod Keeping
pub mod Props
pub mod Walks
pub mod Fronts
pub mod Stripping
pub mod Writing
pub mod Flushes
