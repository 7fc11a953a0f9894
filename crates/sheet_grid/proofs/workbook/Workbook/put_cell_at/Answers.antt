use Rattle.std.proofs.Common.{sym, w32, SFits}
use Rattle.std.proofs.lemmas.Int.{to_z-of_z}
use Rattle.sheet_grid.proofs.BookLemmas.{changes-sheet_edit}
use Rattle.sheet_grid.specs.Sheet.{cell_put}
use Rattle.sheet_grid.proofs.workbook.Workbook.put_cell_at.Goals as goal

pub returns-clause-put : goal.returns-clause-put
returns-clause-put c =
    let row_fits : SFits w32 c.args.row = c.ranges.row in
    let column_fits : SFits w32 c.args.column = c.ranges.column in
    changes-sheet_edit c.args.self.now c.args.at (λ old. cell_put old c.args.row c.args.column c.args.entry)
    c.in_ok-found.found.now c.put_cell.new.self c.put_cell.result (sym c.in_ok-found.ensures.value) (simp to_z-of_z at c.put_cell.ensures.put)
