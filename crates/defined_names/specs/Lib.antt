pub mod Legal
pub mod Names
pub mod laws
