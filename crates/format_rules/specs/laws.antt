pub mod ThresholdEquals
pub mod RuleEquals
pub mod RuleTreeLaws
pub mod FittingLaws
