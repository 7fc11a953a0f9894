pub mod AreaEquals
pub mod AxisEquals
pub mod Lawful
pub mod MergedEquals
pub mod RectangleLaws
