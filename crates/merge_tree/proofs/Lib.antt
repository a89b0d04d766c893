pub mod Wins
pub mod Walks
