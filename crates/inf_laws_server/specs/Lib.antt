pub mod Blocked
pub mod CameTo
pub mod Changes
pub mod Denied
pub mod Done
pub mod Edits
pub mod Passed
pub mod Replies
