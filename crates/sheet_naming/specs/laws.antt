pub mod ListedEquals
pub mod LeastFree
pub mod IdLaws
pub mod Characters
pub mod Numbered
pub mod LegalNames
