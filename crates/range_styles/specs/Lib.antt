pub mod CanonicalPlans
pub mod Clearing
pub mod PlaceWalks
pub mod StyleRanges
pub mod StyleWalks
pub mod Styled
pub mod Tiles
pub mod laws
