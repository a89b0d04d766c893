pub mod Slices
pub mod Sides
pub mod Cuts
pub mod Shows
