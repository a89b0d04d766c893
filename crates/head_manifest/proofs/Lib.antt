pub mod Writing
pub mod Spellings
pub mod FoldLemmas
pub mod Sizes
pub mod Makes
pub mod Files
pub mod Meanings
