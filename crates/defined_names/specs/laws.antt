pub mod NameEquals
pub mod NameLaws
