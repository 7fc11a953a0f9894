pub mod Fitting
pub mod CanonicalContent
pub mod Lens
pub mod laws
