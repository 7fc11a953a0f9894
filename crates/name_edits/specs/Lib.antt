pub mod LookUp
pub mod NameChanges
pub mod NameDiffs
pub mod NameEdits
pub mod laws
