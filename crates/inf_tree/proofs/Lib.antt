pub mod Checks
pub mod FlatCalls
pub mod FlatFiles
pub mod Lookups
pub mod Replays
pub mod Sorted
