use Rattle.std.proofs.Common.{arith}
use Rattle.base_wire.specs.laws.Format.{reads}
use Rattle.sheet_wire.specs.laws.TreesFormats.{trees_format}
use Rattle.sheet_wire.proofs.trees.KeptTreesPartPart.take.Goals as goal

pub returns : goal.returns
returns c = reads trees_format c.args.bytes.now _ (λ i. omega (arith, c.type_inv.bytes i)) c.trees_at.ensures
