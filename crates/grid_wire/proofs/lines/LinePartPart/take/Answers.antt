use Rattle.std.proofs.Common.{arith}
use Rattle.base_wire.specs.laws.Format.{reads}
use Rattle.grid_wire.specs.laws.LineLaws.{line_format}
use Rattle.grid_wire.proofs.lines.LinePartPart.take.Goals as goal

pub returns : goal.returns
returns c = reads line_format c.args.bytes.now _ (λ i. omega (arith, c.type_inv.bytes i)) c.line_at.ensures
