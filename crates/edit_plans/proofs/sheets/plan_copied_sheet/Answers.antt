use Rattle.std.proofs.Common.{◌≡◌, ◌∷◌, [], subst, Err, sym}
use Rattle.std.specs.Prelude.{IfOk}
use Rattle.std.proofs.lemmas.Result.{err_from_is_err_and}
use Rattle.edit_plans.specs.laws.SheetPlans.{copy_no_sheet, copy_no_id, copy_planned, copy_index}
use Rattle.edit_plans.proofs.sheets.plan_copied_sheet.Goals as goal

pub returns-in_err-source : goal.returns-in_err-source
returns-in_err-source c =
    let p = err_from_is_err_and c.from_residual.result c.from_residual.ensures.1 in
    let refused = copy_no_sheet c.args.workbook.now c.args.sheet c.in_err-source.field-0.0 (sym c.in_err-source.ensures) in
    rw (p.1, p.2) (record { planned = refused })

pub returns-in_err-id : goal.returns-in_err-id
returns-in_err-id c =
    let p = err_from_is_err_and c.from_residual-in_err-id.result c.from_residual-in_err-id.ensures.1 in
    let refused = copy_no_id c.args.workbook.now c.args.sheet c.in_ok-source.source.now c.in_err-id.field-0.0 (sym (c.in_ok-source.ensures {u = _}))
    (sym c.in_err-id.ensures) in
    rw (p.1, p.2) (record { planned = refused })

pub copy_diff-requires : goal.copy_diff-requires
copy_diff-requires c =
    copy_index c.args.workbook.now c.args.sheet c.requires.rules c.in_ok-source.source.now c.in_ok-id.id (sym (c.in_ok-source.ensures {u = _}))
    (sym (c.in_ok-id.ensures {u = _}))

pub returns-in_err-diff : goal.returns-in_err-diff
returns-in_err-diff c =
    let p = err_from_is_err_and c.from_residual-in_err-diff.result c.from_residual-in_err-diff.ensures.1 in
    let short = copy_planned c.args.workbook.now c.args.sheet c.requires.rules c.in_ok-source.source.now c.in_ok-id.id
    (sym (c.in_ok-source.ensures {u = _})) (sym (c.in_ok-id.ensures {u = _})) (Err c.in_err-diff.field-0.0) (c.in_err-diff.ensures {u = _}).only tt tt in
    rw (p.1, p.2) (record { planned = short })

pub returns : goal.returns
returns c = record {
  planned = copy_planned c.args.workbook.now c.args.sheet c.requires.rules c.in_ok-source.source.now c.in_ok-id.id
      (sym (c.in_ok-source.ensures {u = _})) (sym (c.in_ok-id.ensures {u = _})) c.list_of_one.result c.list_of_one.ensures.only
      (subst (λ d. IfOk c.list_of_one.result (λ list. list ≡ d ∷ [])) (c.in_ok-diff.ensures {u = _}).output c.list_of_one.ensures.output) c.list_of_one.ensures.canonical;
}
