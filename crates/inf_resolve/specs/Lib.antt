pub mod Chain
pub mod Examples
pub mod InTheWay
pub mod Keys
pub mod Known
pub mod Resolved
pub mod Rounds
pub mod Walk
