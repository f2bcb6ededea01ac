pub mod CleanUpFacts
pub mod ClientLaws
pub mod HistoryDecides
pub mod HistoryLaws
pub mod OldestFirst
pub mod PartDecides
pub mod ReplyDecides
pub mod RequestDecides
