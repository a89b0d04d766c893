pub mod Kept
pub mod Spent
pub mod Steps
pub mod Queues
