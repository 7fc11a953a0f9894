pub mod Ways
pub mod SheetDiffs
pub mod laws
