-- The bytes of changes of conditional rules.
use Rattle.std.specs.Prelude.{ℕ, ◌<◌, ◌^◌, List, ◌++◌, IfSome}
use Rattle.std.specs.Int.{w32, w64, to_be_bytes}
use Rattle.rule_edits.specs.declared.RuleChange.{RuleChange}
use Rattle.base_wire.specs.Encoding.{encode_option}
use Rattle.grid_wire.specs.FormattingBytes.{encode_formatting, FitsFormatting, IsKnownFormatting}

-- the index of the rule, the old one, and the new one
unfoldable pub encode_rule_change : RuleChange → List ℕ
encode_rule_change change = to_be_bytes w64 change.index ++ (encode_option encode_formatting change.old ++ encode_option encode_formatting change.new)

-- an index of 64 bits, and rules that bytes can carry
pub record FitsRuleChange (change : RuleChange) : Type 0 where
  pub index : change.index < 2 ^ 64
  pub old : IfSome change.old FitsFormatting
  pub new : IfSome change.new FitsFormatting

-- what writing asks: numbers are canonical, and formulas are at most 64 deep
pub record IsKnownRuleChange (change : RuleChange) : Type 0 where
  pub old : IfSome change.old IsKnownFormatting
  pub new : IfSome change.new IsKnownFormatting

-- the id of the sheet, and the change of its rules
unfoldable pub encode_rule : ℕ → RuleChange → List ℕ
encode_rule id change = to_be_bytes w32 id ++ encode_rule_change change

-- an id and a change that bytes can carry
pub record FitsRuleDiff (id : ℕ) (part : RuleChange) : Type 0 where
  pub sheet : id < 2 ^ 32
  pub change : FitsRuleChange part
