pub mod Bests
pub mod Doubling
pub mod Sums
