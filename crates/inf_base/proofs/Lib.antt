pub mod Decides
pub mod Same
