pub mod LineCounts
pub mod FilledPlaces
pub mod FillWalks
pub mod FillWalkLaws
pub mod RangedFills
pub mod TileLaws
pub mod RebasedTrees
