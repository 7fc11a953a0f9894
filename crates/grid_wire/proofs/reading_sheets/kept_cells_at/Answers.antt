use Rattle.std.proofs.Common.{arith}
use Rattle.base_wire.specs.laws.Format.{reads}
use Rattle.base_wire.specs.laws.MapFits.{of_answer}
use Rattle.grid_wire.specs.laws.GridFits.{canonical_cells_from_fits}
use Rattle.grid_wire.specs.laws.SheetLaws.{cells_format}
use Rattle.grid_wire.proofs.reading_sheets.kept_cells_at.Goals as goal

pub returns-clause-canonical : goal.returns-clause-canonical
returns-clause-canonical c = of_answer _ _ (λ x fits. canonical_cells_from_fits x.0 fits) c.cells_at.result (reads cells_format c.args.bytes.now _ (λ i. omega (arith, c.type_inv.bytes i)) c.cells_at.ensures).fits
