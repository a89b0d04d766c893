pub mod Edits
pub mod Reading
pub mod LiveTables
