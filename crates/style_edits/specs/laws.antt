pub mod UpdateRules
