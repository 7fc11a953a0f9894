use Rattle.std.proofs.Common.{arith}
use Rattle.base_wire.specs.laws.Format.{reads}
use Rattle.sheet_wire.specs.laws.KeptLaws.{kept_format}
use Rattle.sheet_wire.proofs.kept_lines.KeptLinesPartPart.take.Goals as goal

pub returns : goal.returns
returns c = reads kept_format c.args.bytes.now _ (λ i. omega (arith, c.type_inv.bytes i)) c.kept_at.ensures
