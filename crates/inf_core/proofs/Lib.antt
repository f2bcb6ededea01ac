pub mod CoreFacts
pub mod KnownFlows
pub mod Posted
pub mod Replayed
