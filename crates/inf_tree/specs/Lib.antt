pub mod Apply
pub mod Examples
pub mod Flat
pub mod Replay
pub mod ReplayExamples
pub mod Tree
pub mod Walk
pub mod WalkExamples
