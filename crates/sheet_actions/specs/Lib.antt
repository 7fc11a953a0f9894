pub mod Checked
pub mod Edited
pub mod Formulas
pub mod GreatestLine
pub mod Planned
pub mod Shown
pub mod Whole
pub mod laws
