use Rattle.std.proofs.Common.{◌≡◌, true, rules}
use Rattle.book_sheets.specs.SheetDiffs.{cells_fit}
use Rattle.book_names.specs.RenameDiffs.{formulas_stand}
use Rattle.sheet_history.specs.LineDiffs.{goes_on}
use Rattle.sheet_history.proofs.Standing.{placed_where_stands}
use Rattle.sheet_history.proofs.line_diffs.may_stand.Goals as goal

pub returns-then-formulas_stand-clause-placed : goal.returns-then-formulas_stand-clause-placed
returns-then-formulas_stand-clause-placed g c = λ all.
    let seek = goes_on g.A.Axis.along c.args.edit.now.kind c.args.id in
    let fit : cells_fit c.args.kept.now.cells ≡ true = search rules in
    let stand : formulas_stand seek c.args.kept.now.formulas c.args.workbook.now ≡ true = search rules in
    placed_where_stands seek c.args.kept.now c.args.workbook.now fit stand (c.formattings_stand.ensures.lie all)
