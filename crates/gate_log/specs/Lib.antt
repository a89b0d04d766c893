pub mod Placed
pub mod Frames
pub mod Reads
pub mod Faults
pub mod GateLog
pub mod Outcomes
pub mod Fronts
