pub mod Distinct
pub mod Names
pub mod Occupied
pub mod SheetNames
pub mod WellFormed
pub mod laws
