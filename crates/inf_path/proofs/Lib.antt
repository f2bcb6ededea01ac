pub mod PieceFacts
pub mod NameFacts
