pub mod Ids
pub mod Chosen
pub mod Moved
pub mod Views
pub mod laws
