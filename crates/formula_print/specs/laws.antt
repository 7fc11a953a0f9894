pub mod PrintEquations
pub mod ScopeEquations
pub mod DialectEquals
