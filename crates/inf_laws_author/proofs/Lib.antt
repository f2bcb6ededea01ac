pub mod LaterAnswers
pub mod OwnEventFacts
pub mod OwnOrder
pub mod ServedOnce
pub mod Tests
