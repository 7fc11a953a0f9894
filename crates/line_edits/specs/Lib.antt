pub mod Edit
pub mod Lost
pub mod Splits
pub mod Merged
pub mod Moves
pub mod Singles
pub mod laws
