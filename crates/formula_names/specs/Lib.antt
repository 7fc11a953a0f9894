pub mod Named
pub mod Renamed
pub mod laws
