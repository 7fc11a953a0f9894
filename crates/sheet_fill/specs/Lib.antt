pub mod FillRanges
pub mod Tiles
pub mod Targets
pub mod Plans
pub mod laws
