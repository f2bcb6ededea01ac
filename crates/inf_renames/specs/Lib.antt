pub mod Examples
pub mod Kept
pub mod Renames
pub mod Rows
