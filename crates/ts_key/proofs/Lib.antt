pub mod NumberBytes
pub mod Writing
pub mod Reading
pub mod StoredKeys
