use Rattle.std.proofs.Common.{◌≡◌, ◌∷◌, [], ◌∙◌, Err, sym, subst}
use Rattle.std.specs.Prelude.{IfOk}
use Rattle.std.proofs.lemmas.Result.{err_from_is_err_and}
use Rattle.edit_plans.specs.laws.SheetPlans.{rename_no_sheet, rename_not_named, rename_planned}
use Rattle.edit_plans.proofs.sheets.plan_renamed_sheet.Goals as goal

pub returns-in_err-found : goal.returns-in_err-found
returns-in_err-found c =
    let p = err_from_is_err_and c.from_residual.result c.from_residual.ensures.1 in
    let refused = rename_no_sheet c.args.workbook.now c.args.sheet c.args.name.now c.in_err-found.field-0.0 (sym c.in_err-found.ensures) in
    rw (p.1, p.2) (record { planned = refused })

pub returns-then-not-may_have : goal.returns-then-not-may_have
returns-then-not-may_have c = record {
  planned = rename_not_named c.args.workbook.now c.args.sheet c.args.name.now c.in_ok-found.found.now (sym (c.in_ok-found.ensures {u = _}))
      (sym c.may_have.ensures ∙ c.if-not-may_have.true);
}

pub returns-in_err-diff : goal.returns-in_err-diff
returns-in_err-diff c =
    let p = err_from_is_err_and c.from_residual-in_err-diff.result c.from_residual-in_err-diff.ensures.1 in
    let short = rename_planned c.args.workbook.now c.args.sheet c.args.name.now c.requires.rules c.in_ok-found.found.now (sym (c.in_ok-found.ensures {u = _}))
    (sym c.may_have.ensures ∙ c.if-not-may_have.false) (Err c.in_err-diff.field-0.0) (c.in_err-diff.ensures {u = _}).only tt tt in
    rw (p.1, p.2) (record { planned = short })

pub returns : goal.returns
returns c = record {
  planned = rename_planned c.args.workbook.now c.args.sheet c.args.name.now c.requires.rules c.in_ok-found.found.now (sym (c.in_ok-found.ensures {u = _}))
      (sym c.may_have.ensures ∙ c.if-not-may_have.false)
      c.list_of_one.result c.list_of_one.ensures.only
      (subst (λ d. IfOk c.list_of_one.result (λ list. list ≡ d ∷ [])) (c.in_ok-diff.ensures {u = _}).output c.list_of_one.ensures.output) c.list_of_one.ensures.canonical;
}
