pub mod FileFlow
