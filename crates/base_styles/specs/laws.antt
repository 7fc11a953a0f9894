pub mod AlignmentEquals
pub mod BorderEquals
pub mod AreaEquals
pub mod ColorEquals
pub mod StyleEquals
pub mod ThemeEquals
