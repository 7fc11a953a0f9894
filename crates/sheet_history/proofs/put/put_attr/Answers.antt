use Rattle.std.proofs.Common.{refl, ◌≡◌, None, Some, Err, sym, subst, rules, w32, SFits}
use Rattle.std.proofs.lemmas.Int.{to_z-of_z}
use Rattle.base_values.specs.Answers.{Edits}
use Rattle.sheet_grid.specs.Book.{index_of, sheet_at, with_sheet}
use Rattle.sheet_history.specs.Entries.EntryKey.{AttrKey}
use Rattle.sheet_history.specs.Entries.EntryValue.{AttrValue}
use Rattle.sheet_history.specs.Diffs.{sheet_put}
use Rattle.sheet_history.specs.laws.PutLaws.{accepts-missing, put_in-refused, sheet_at_there, Edits-put_in}
use Rattle.sheet_history.proofs.KeptAttributes.{put_of_any}
use Rattle.sheet_history.proofs.Placed.{edit_placed}
use Rattle.sheet_history.proofs.put.put_attr.Goals as goal

pub returns-in_default : goal.returns-in_default
returns-in_default c =
    let none : index_of c.args.workbook.now c.args.id ≡ None = search rules in
    let is = put_in-refused c.args.at c.args.workbook.now (AttrKey c.args.id c.args.axis c.args.line) (AttrValue c.args.entry.now) (accepts-missing c.args.workbook.now (AttrKey c.args.id c.args.axis c.args.line) (AttrValue c.args.entry.now) refl none) in
    search rules

pub returns-in_err-sheet : goal.returns-in_err-sheet
returns-in_err-sheet c =
    let there : index_of c.args.workbook.now c.args.id ≡ Some c.in-Some.index = search rules in
    let error : sheet_at c.args.workbook.now c.in-Some.index ≡ Err c.in_err-sheet.field-0.0 = search rules in
    absurd (sheet_at_there c.args.workbook.now c.args.id c.in-Some.index c.in_err-sheet.field-0.0 there error)

pub returns-clause-edits : goal.returns-clause-edits
returns-clause-edits c =
    let there : index_of c.args.workbook.now c.args.id ≡ Some c.in-Some.index = search rules in
    let line_fits : SFits w32 c.args.line = c.ranges.line in
    let put : Edits c.put_attr_in.result c.in_ok-sheet.sheet.now c.put_attr_in.new.sheet (sheet_put c.args.at (AttrKey c.in_ok-sheet.sheet.now.id c.args.axis c.args.line) (AttrValue c.args.entry.now) c.in_ok-sheet.sheet.now) =
    simp to_z-of_z at c.put_attr_in.ensures in
    Edits-put_in c.args.at c.args.workbook.now (AttrKey c.args.id c.args.axis c.args.line) (AttrValue c.args.entry.now) refl c.in-Some.index c.in_ok-sheet.sheet.now c.put_attr_in.new.sheet c.put_attr_in.result there (sym c.in_ok-sheet.ensures.value)
    (subst (Edits c.put_attr_in.result c.in_ok-sheet.sheet.now c.put_attr_in.new.sheet) (put_of_any c.args.at c.in_ok-sheet.sheet.now.id c.args.id c.args.axis c.args.line c.args.entry.now c.in_ok-sheet.sheet.now) put)

pub returns-clause-placed : goal.returns-clause-placed
returns-clause-placed c =
    edit_placed c.args.at c.args.workbook.now (AttrKey c.args.id c.args.axis c.args.line) (AttrValue c.args.entry.now) (with_sheet c.args.workbook.now c.in-Some.index c.put_attr_in.new.sheet) c.put_attr_in.result c.requires (returns-clause-edits c)
