pub mod Stores
pub mod Fault
pub mod Opening
pub mod Making
