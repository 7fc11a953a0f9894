pub mod Walk
pub mod Navigated
pub mod Searches
pub mod laws
