pub mod CommandFacts
pub mod PlacesFacts
