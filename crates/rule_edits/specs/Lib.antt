pub mod RuleChanges
pub mod RuleEdits
pub mod Made
pub mod laws
