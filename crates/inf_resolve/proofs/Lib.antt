pub mod AskedFacts
mod ChainFacts
pub mod InTheWayFacts
mod KeyFacts
pub mod KnownFacts
pub mod LedFacts
mod RoundFacts
mod RoundLaw
mod VerdictFacts
