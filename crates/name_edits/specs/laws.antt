pub mod ChangeEquals
pub mod Lists
pub mod Replaced
pub mod BothWays
pub mod LaterRules
