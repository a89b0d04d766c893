pub mod Folds
pub mod Bodies
