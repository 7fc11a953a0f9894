use Rattle.std.proofs.Common.{◌≡◌, ◌∷◌, [], sym, subst, arith}
use Rattle.std.specs.Prelude.{IfOk}
use Rattle.std.proofs.lemmas.Result.{err_from_is_err_and}
use Rattle.sheet_history.specs.declared.Diff.TheVariants.{MoveSheet as MoveDiff}
use Rattle.edit_plans.specs.laws.SheetPlans.{move_no_sheet, move_no_place, move_planned}
use Rattle.edit_plans.proofs.sheets.plan_moved_sheet.Goals as goal

pub returns-in_err-found : goal.returns-in_err-found
returns-in_err-found c =
    let p = err_from_is_err_and c.from_residual.result c.from_residual.ensures.1 in
    let refused = move_no_sheet c.args.workbook.now c.args.from c.args.to c.in_err-found.field-0.0 (sym c.in_err-found.ensures) in
    rw (p.1, p.2) (record { planned = refused })

pub returns-then-to-sheet_count : goal.returns-then-to-sheet_count
returns-then-to-sheet_count c =
    record { planned = move_no_place c.args.workbook.now c.args.from c.args.to (omega (arith, c.if-to-sheet_count.true, c.sheet_count.ensures)) }

pub returns : goal.returns
returns c = record {
  planned = move_planned c.args.workbook.now c.args.from c.args.to c.requires.rules c.in_ok-found.found.now (sym (c.in_ok-found.ensures {u = _}))
      (omega (arith, c.if-to-sheet_count.false, c.sheet_count.ensures))
      c.list_of_one.result c.list_of_one.ensures.only
      (subst (λ n. IfOk c.list_of_one.result (λ list. list ≡ MoveDiff n c.args.from c.args.to ∷ [])) c.get_sheet_id.ensures c.list_of_one.ensures.output)
      c.list_of_one.ensures.canonical;
}
