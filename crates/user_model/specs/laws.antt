pub mod StructureEquals
pub mod CellTypeEquals
pub mod PropertiesEquals
