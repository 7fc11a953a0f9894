pub mod FirstPlaces
pub mod Joins
pub mod Numbers
pub mod Scopes
pub mod SheetNames
pub mod Stores
