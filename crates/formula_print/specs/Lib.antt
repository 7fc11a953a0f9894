pub mod Kinds
pub mod References
pub mod Pieces
pub mod Print
pub mod Forms
pub mod FirstPlaces
pub mod Scope
pub mod laws
