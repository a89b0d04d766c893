pub mod Tables
pub mod Sound
pub mod Views
pub mod Lists
pub mod Laws
