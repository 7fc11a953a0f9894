pub mod Reading
pub mod Outcome
pub mod Signs
pub mod Nests
pub mod Equals
pub mod ProfileEquals
