pub mod Pushed
pub mod Streaming
pub mod States
pub mod Collecting
