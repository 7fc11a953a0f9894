use Rattle.std.proofs.Common.{arith}
use Rattle.base_wire.specs.laws.Format.{reads}
use Rattle.grid_wire.specs.laws.RuleLaws.{rule_format}
use Rattle.grid_wire.proofs.rules.RulePartPart.take.Goals as goal

pub returns : goal.returns
returns c = reads rule_format c.args.bytes.now _ (λ i. omega (arith, c.type_inv.bytes i)) c.rule_at.ensures
