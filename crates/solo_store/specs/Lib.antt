pub mod Names
pub mod Acting
pub mod Replies
pub mod Flushable
pub mod Stores
pub mod Steps
pub mod Flushing
