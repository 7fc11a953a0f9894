use Rattle.std.proofs.Common.{arith}
use Rattle.base_wire.specs.laws.Format.{reads}
use Rattle.grid_wire.specs.laws.CellFormats.{alignment_format}
use Rattle.grid_wire.proofs.cell_parts.AlignmentPartPart.take.Goals as goal

pub returns : goal.returns
returns c = reads alignment_format c.args.bytes.now _ (λ i. omega (arith, c.type_inv.bytes i)) c.alignment_at.ensures
