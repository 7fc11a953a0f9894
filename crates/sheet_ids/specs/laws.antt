pub mod Found
pub mod ViewEquals
pub mod ViewLaws
