use Rattle.std.proofs.Common.{◌≡◌, true, length, sym, subst, rules}
use Rattle.sheet_lines.specs.Sheets.{IsPlacedSheet}
use Rattle.book_sheets.specs.SheetDiffs.{may_come_back}
use Rattle.book_sheets.specs.laws.Placed.{placed_kept}
use Rattle.book_sheets.proofs.Edited.{placed_with}
use Rattle.book_sheets.proofs.coming.deletion_back.Goals as goal

pub returns-clause-placed : goal.returns-clause-placed
returns-clause-placed c =
    let kept = c.args.kept.now in
    let may : may_come_back (length c.defined_names.result.now) c.args.kept.now ≡ true = search rules in
    placed_with c.come.result c.args.index c.in_ok-sheet.sheet c.in_ok-names.names c.args.workbook.now c.come.new.workbook
    (subst IsPlacedSheet (sym c.in_ok-sheet.ensures.copy) (placed_kept (length c.defined_names.result.now) kept may)) c.requires.placed c.come.ensures
