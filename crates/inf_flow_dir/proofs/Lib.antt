pub mod ReplyFacts
