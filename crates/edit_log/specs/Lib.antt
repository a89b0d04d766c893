pub mod Replays
pub mod Logs
