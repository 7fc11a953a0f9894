pub mod DecimalEquals
pub mod Reading
