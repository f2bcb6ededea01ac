mod Carried
mod LinkFacts
mod LookupFacts
