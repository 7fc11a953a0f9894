use Rattle.std.proofs.Common.{◌≡◌, None, Some, Err, sym, rules}
use Rattle.sheet_grid.specs.Book.{index_of, sheet_at, with_sheet}
use Rattle.rule_edits.specs.RuleChanges.{opposite}
use Rattle.sheet_history.specs.laws.PutLaws.{sheet_at_there}
use Rattle.sheet_history.specs.laws.RuleDiffLaws.{Edits-rule_put, rule_put-missing}
use Rattle.sheet_history.proofs.Placed.{rule_placed}
use Rattle.sheet_history.proofs.rule_diffs.rule_back.Goals as goal

pub returns-in_default : goal.returns-in_default
returns-in_default c =
    let none : index_of c.args.workbook.now c.args.id ≡ None = search rules in
    let is = rule_put-missing c.args.at c.args.id (opposite c.args.change.now) c.args.workbook.now none in
    search rules

pub returns-in_err-sheet : goal.returns-in_err-sheet
returns-in_err-sheet c =
    let there : index_of c.args.workbook.now c.args.id ≡ Some c.in-Some.index = search rules in
    let error : sheet_at c.args.workbook.now c.in-Some.index ≡ Err c.in_err-sheet.field-0.0 = search rules in
    absurd (sheet_at_there c.args.workbook.now c.args.id c.in-Some.index c.in_err-sheet.field-0.0 there error)

pub returns-clause-edits : goal.returns-clause-edits
returns-clause-edits c =
    let there : index_of c.args.workbook.now c.args.id ≡ Some c.in-Some.index = search rules in
    Edits-rule_put c.args.at c.args.id (opposite c.args.change.now) c.args.workbook.now c.in-Some.index c.in_ok-sheet.sheet.now c.unmade_in.new.sheet c.unmade_in.result there (sym c.in_ok-sheet.ensures.value) c.unmade_in.ensures

pub returns-clause-placed : goal.returns-clause-placed
returns-clause-placed c =
    rule_placed c.args.at c.args.id (opposite c.args.change.now) c.args.workbook.now (with_sheet c.args.workbook.now c.in-Some.index c.unmade_in.new.sheet) c.unmade_in.result c.requires.placed (returns-clause-edits c)
