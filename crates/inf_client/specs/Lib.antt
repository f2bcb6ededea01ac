pub mod AskLog
pub mod Client
pub mod Group
pub mod Planned
pub mod Room
