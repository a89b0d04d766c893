pub mod Sorting
pub mod Written
pub mod Pushed
