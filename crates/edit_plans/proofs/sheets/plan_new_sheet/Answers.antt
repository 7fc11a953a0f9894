use Rattle.std.proofs.Common.{◌≡◌, ◌∷◌, [], subst, Err, sym}
use Rattle.std.specs.Prelude.{IfOk}
use Rattle.std.proofs.lemmas.Result.{err_from_is_err_and}
use Rattle.edit_plans.specs.laws.SheetEditLaws.{few_sheets}
use Rattle.edit_plans.specs.laws.SheetPlans.{new_refused, new_planned}
use Rattle.edit_plans.proofs.sheets.plan_new_sheet.Goals as goal

pub returns-in_err-sheet : goal.returns-in_err-sheet
returns-in_err-sheet c =
    let p = err_from_is_err_and c.from_residual.result c.from_residual.ensures.1 in
    let refused = new_refused c.args.workbook.now c.in_err-sheet.field-0.0 (sym c.in_err-sheet.ensures) in
    rw (p.1, p.2) (record { planned = refused })

pub new_diff-requires : goal.new_diff-requires
new_diff-requires c = few_sheets c.args.workbook.now c.requires.rules c.in_ok-sheet.sheet (sym (c.in_ok-sheet.ensures {u = _}))

pub returns-in_err-diff : goal.returns-in_err-diff
returns-in_err-diff c =
    let p = err_from_is_err_and c.from_residual-in_err-diff.result c.from_residual-in_err-diff.ensures.1 in
    let short = new_planned c.args.workbook.now c.requires.rules c.in_ok-sheet.sheet (sym (c.in_ok-sheet.ensures {u = _})) (Err c.in_err-diff.field-0.0) (c.in_err-diff.ensures {u = _}).only tt tt in
    rw (p.1, p.2) (record { planned = short })

pub returns : goal.returns
returns c = record {
  planned = new_planned c.args.workbook.now c.requires.rules c.in_ok-sheet.sheet (sym (c.in_ok-sheet.ensures {u = _})) c.list_of_one.result c.list_of_one.ensures.only
      (subst (λ d. IfOk c.list_of_one.result (λ list. list ≡ d ∷ [])) (c.in_ok-diff.ensures {u = _}).output c.list_of_one.ensures.output) c.list_of_one.ensures.canonical;
}
