pub mod Counts
pub mod LessTold
pub mod OwnEvents
