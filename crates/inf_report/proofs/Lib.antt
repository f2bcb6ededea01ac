pub mod DigitFacts
pub mod LineFacts
pub mod NumberFacts
pub mod PutFacts
pub mod SlotFacts
