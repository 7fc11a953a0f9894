use Rattle.std.proofs.Common.{◌≡◌, true, Some, None, Ok, Err, ap, sym, subst, ◌∙◌, rules}
use Rattle.defined_names.specs.Names.{names_copied}
use Rattle.sheet_grid.specs.Book.{index_of, sheet_at}
use Rattle.sheet_lines.specs.Sheets.{IsPlacedSheet}
use Rattle.book_sheets.specs.SheetDiffs.{may_come, with_sheet_at, copy_forward}
use Rattle.book_sheets.specs.laws.Placed.{placed_copy, all_got}
use Rattle.book_sheets.proofs.Edited.{edits_as, copy_where_may, copy_without_source, sheet_at_there, got_at, placed_with}
use Rattle.book_sheets.proofs.coming.copy_forward.Goals as goal

pub returns-in_default-clause-edits : goal.returns-in_default-clause-edits
returns-in_default-clause-edits c =
    let none : index_of c.args.workbook.now c.args.source ≡ None = search rules in
    record { done = tt; refused = ((λ i. c.args.workbook.now), λ known. copy_without_source c.args.at c.args.source c.args.id c.args.index c.args.name.now c.args.workbook.now none) }

pub returns-in_err-worksheet-clause-edits : goal.returns-in_err-worksheet-clause-edits
returns-in_err-worksheet-clause-edits c =
    let there : index_of c.args.workbook.now c.args.source ≡ Some c.in-Some.found = search rules in
    let lacks : sheet_at c.args.workbook.now c.in-Some.found ≡ Err c.in_err-worksheet.field-0.0 = search rules in
    absurd (sheet_at_there c.args.workbook.now c.args.source c.in-Some.found c.in_err-worksheet.field-0.0 there lacks)

pub returns-clause-edits : goal.returns-clause-edits
returns-clause-edits c =
    let w = c.args.workbook.now in
    let source = c.in_ok-worksheet.field-0.now in
    let there : index_of c.args.workbook.now c.args.source ≡ Some c.in-Some.found = search rules in
    let may : may_come c.args.index c.args.id c.args.workbook.now ≡ true = search rules in
    let names : c.in_ok-names.names ≡ names_copied c.args.source c.args.id w.names = c.in_ok-names.ensures.names ∙ ap (names_copied c.args.source c.args.id) c.name_list.ensures in
    edits_as c.come.result w c.come.new.workbook (copy_forward c.args.at c.args.source c.args.id c.args.index c.args.name.now w) (Ok (with_sheet_at c.args.index c.in_ok-sheet.sheet c.in_ok-names.names w))
    (copy_where_may c.args.at c.args.source c.args.id c.args.index c.in-Some.found c.args.name.now source w there (sym c.in_ok-worksheet.ensures) may
    ∙ (λ i. Ok (with_sheet_at c.args.index (sym c.in_ok-sheet.ensures.copy i) (sym names i) w)))
    c.come.ensures

pub returns-clause-placed : goal.returns-clause-placed
returns-clause-placed c =
    let w = c.args.workbook.now in
    let source = c.in_ok-worksheet.field-0.now in
    let one = all_got IsPlacedSheet w.worksheets c.in-Some.found source c.requires (got_at w c.in-Some.found source (sym c.in_ok-worksheet.ensures)) in
    placed_with c.come.result c.args.index c.in_ok-sheet.sheet c.in_ok-names.names w c.come.new.workbook
    (subst IsPlacedSheet (sym c.in_ok-sheet.ensures.copy) (placed_copy c.args.id c.args.name.now source one)) c.requires c.come.ensures
