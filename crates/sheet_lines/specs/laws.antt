pub mod PartLaws
pub mod KeptEquals
pub mod Stays
pub mod Regained
pub mod WorkbookLaws
pub mod LinesAfter
