pub mod PartBytes
pub mod NodeBytes
pub mod Carried
pub mod laws
