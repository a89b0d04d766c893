pub mod Plans
pub mod Closed
pub mod Feeding
pub mod Made
pub mod Filling
pub mod Making
pub mod Drawing
