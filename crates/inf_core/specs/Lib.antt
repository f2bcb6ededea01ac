pub mod Core
pub mod Examples
pub mod Steps
