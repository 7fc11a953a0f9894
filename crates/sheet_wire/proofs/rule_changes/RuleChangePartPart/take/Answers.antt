use Rattle.std.proofs.Common.{arith}
use Rattle.base_wire.specs.laws.Format.{reads}
use Rattle.sheet_wire.specs.laws.RulesFormats.{rule_change_format}
use Rattle.sheet_wire.proofs.rule_changes.RuleChangePartPart.take.Goals as goal

pub returns : goal.returns
returns c = reads rule_change_format c.args.bytes.now _ (λ i. omega (arith, c.type_inv.bytes i)) c.rule_change_at.ensures
