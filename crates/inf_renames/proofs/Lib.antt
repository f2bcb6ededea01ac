pub mod Entries
pub mod KeptFacts
pub mod OneList
pub mod RenamesFacts
