pub mod Live
pub mod Levels
pub mod Changes
pub mod Contents
pub mod Writes
pub mod Jobs
pub mod Numbers
pub mod Laws
