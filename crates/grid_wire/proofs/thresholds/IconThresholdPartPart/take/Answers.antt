use Rattle.std.proofs.Common.{arith}
use Rattle.base_wire.specs.laws.Format.{reads}
use Rattle.grid_wire.specs.laws.ThresholdLaws.{icon_threshold_format}
use Rattle.grid_wire.proofs.thresholds.IconThresholdPartPart.take.Goals as goal

pub returns : goal.returns
returns c = reads icon_threshold_format c.args.bytes.now _ (λ i. omega (arith, c.type_inv.bytes i)) c.icon_threshold_at.ensures
