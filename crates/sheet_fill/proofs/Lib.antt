mod RepeatedLines
mod Tiling
mod NamedPlaces
mod Planned
mod CoveredPlaces
mod CanonicalFills
