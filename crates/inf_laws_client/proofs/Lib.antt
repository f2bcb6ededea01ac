pub mod AskedFacts
pub mod ChainFacts
pub mod KnowsFacts
pub mod LedChain
pub mod PathClients
pub mod PathFacts
pub mod ToldAlong
pub mod ToldFacts
