use Rattle.std.proofs.Common.{◌≡◌, ◌==◌, true, ◌∷◌, [], length, ap, subst, ◌∙◌, Err, sym, arith}
use Rattle.std.specs.Prelude.{IfOk}
use Rattle.std.proofs.lemmas.Result.{err_from_is_err_and}
use Rattle.edit_plans.specs.laws.SheetPlans.{deletion_no_sheet, deletion_of_only, deletion_planned}
use Rattle.edit_plans.proofs.sheets.plan_deleted_sheet.Goals as goal

pub returns-in_err-found : goal.returns-in_err-found
returns-in_err-found c =
    let p = err_from_is_err_and c.from_residual.result c.from_residual.ensures.1 in
    let refused = deletion_no_sheet c.args.workbook.now c.args.sheet c.in_err-found.field-0.0 (sym c.in_err-found.ensures) in
    rw (p.1, p.2) (record { planned = refused })

pub returns-then-sheet_count-eq1 : goal.returns-then-sheet_count-eq1
returns-then-sheet_count-eq1 c =
    let only : (length c.args.workbook.now.worksheets == 1) ≡ true = ap (λ n. n == 1) (sym c.sheet_count.ensures ∙ c.if-sheet_count-eq1.true) in
    record { planned = deletion_of_only c.args.workbook.now c.args.sheet c.in_ok-found.found.now (sym (c.in_ok-found.ensures {u = _})) only }

pub returns-in_err-diff : goal.returns-in_err-diff
returns-in_err-diff c =
    let p = err_from_is_err_and c.from_residual-in_err-diff.result c.from_residual-in_err-diff.ensures.1 in
    let short = deletion_planned c.args.workbook.now c.args.sheet c.requires.rules c.in_ok-found.found.now (sym (c.in_ok-found.ensures {u = _}))
    (grind (arith, c.if-sheet_count-eq1.false, c.sheet_count.ensures))
    (Err c.in_err-diff.field-0.0) (c.in_err-diff.ensures {u = _}).only tt tt in
    rw (p.1, p.2) (record { planned = short })

pub returns : goal.returns
returns c = record {
  planned = deletion_planned c.args.workbook.now c.args.sheet c.requires.rules c.in_ok-found.found.now (sym (c.in_ok-found.ensures {u = _}))
      (grind (arith, c.if-sheet_count-eq1.false, c.sheet_count.ensures))
      c.list_of_one.result c.list_of_one.ensures.only
      (subst (λ d. IfOk c.list_of_one.result (λ list. list ≡ d ∷ [])) (c.in_ok-diff.ensures {u = _}).output c.list_of_one.ensures.output) c.list_of_one.ensures.canonical;
}
