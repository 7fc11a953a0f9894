pub mod RuleTrees
pub mod Canonical
pub mod Fitting
pub mod laws
