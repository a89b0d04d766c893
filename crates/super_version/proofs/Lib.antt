pub mod Lists
pub mod Frames
pub mod Greatest
pub mod Placing
pub mod Written
pub mod Orders
pub mod Numbered
pub mod Seen
