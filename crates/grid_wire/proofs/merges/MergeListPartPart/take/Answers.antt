use Rattle.std.proofs.Common.{arith}
use Rattle.base_wire.specs.laws.Format.{reads}
use Rattle.grid_wire.specs.laws.MergeLaws.{merges_format}
use Rattle.grid_wire.proofs.merges.MergeListPartPart.take.Goals as goal

pub returns : goal.returns
returns c = reads merges_format c.args.bytes.now _ (λ i. omega (arith, c.type_inv.bytes i)) c.merges_at.ensures
