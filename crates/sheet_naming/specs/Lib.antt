pub mod Listed
pub mod FreeNames
pub mod NextIds
pub mod Texts
pub mod laws
