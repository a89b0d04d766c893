pub mod Walks
pub mod Sources
pub mod Rows
pub mod Helds
pub mod Rests
pub mod Laws
