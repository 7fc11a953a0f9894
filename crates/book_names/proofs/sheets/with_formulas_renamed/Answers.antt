use Rattle.std.proofs.Common.{subst, sym}
use Rattle.sheet_grid.specs.CanonicalCell.{CanonicalCells}
use Rattle.book_names.specs.laws.Numbers.{cells_numbers}
use Rattle.book_names.proofs.sheets.with_formulas_renamed.Goals as goal

pub with_formulas-requires : goal.with_formulas-requires
with_formulas-requires c = subst CanonicalCells (sym c.in_ok-cells.ensures.cells) (cells_numbers c.args.reach c.args.old.now c.args.new.now c.cell_map.result.now c.cell_map.ensures.canonical)
