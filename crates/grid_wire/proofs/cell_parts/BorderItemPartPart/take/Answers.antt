use Rattle.std.proofs.Common.{arith}
use Rattle.base_wire.specs.laws.Format.{reads}
use Rattle.grid_wire.specs.laws.CellFormats.{border_item_format}
use Rattle.grid_wire.proofs.cell_parts.BorderItemPartPart.take.Goals as goal

pub returns : goal.returns
returns c = reads border_item_format c.args.bytes.now _ (λ i. omega (arith, c.type_inv.bytes i)) c.border_item_at.ensures
