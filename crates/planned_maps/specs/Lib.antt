pub mod Planned
pub mod Walks
pub mod laws
