pub mod Classes
pub mod Examples
