use Rattle.std.proofs.Common.{subst, sym}
use Rattle.sheet_lines.specs.Sheets.{IsPlacedBook}
use Rattle.sheet_actions.specs.laws.Placed.{placed_from_well_formed}
use Rattle.bench_lines.proofs.main.Goals as goal

pub counts-requires : goal.counts-requires
counts-requires c = subst IsPlacedBook (sym c.workbook-book.ensures.now) (placed_from_well_formed c.in_ok-model.model.workbook c.workbook-book.ensures.rules)

pub counts-requires-else-is_rows : goal.counts-requires-else-is_rows
counts-requires-else-is_rows c = subst IsPlacedBook (sym c.workbook-book.ensures.now) (placed_from_well_formed c.in_ok-model.model.workbook c.workbook-book.ensures.rules)
