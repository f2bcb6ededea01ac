pub mod Calls
pub mod Examples
pub mod Identifiers
pub mod Numbers
pub mod Replies
pub mod Report
pub mod Requests
pub mod Writing
