pub mod Asked
pub mod Examples
pub mod Paths
pub mod Run
pub mod Told
