pub mod Colors
pub mod Values
pub mod Paths
pub mod Changes
pub mod Updates
pub mod BorderOrder
pub mod laws
