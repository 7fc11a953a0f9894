use Rattle.std.proofs.lemmas.Result.{err_from_is_err_and}
use Rattle.name_edits.specs.NameEdits.NameEdit.{Add}
use Rattle.edit_plans.specs.laws.NamedPlans.{change_placed, change_planned, change_refused}
use Rattle.edit_plans.proofs.names.plan_new_name.Goals as goal

pub returns-in_err-change : goal.returns-in_err-change
returns-in_err-change c =
    let p = err_from_is_err_and c.from_residual.result c.from_residual.ensures.1 in
    let refused = change_refused (Add c.args.scope c.args.name.now c.args.formula.now) c.args.workbook.now c.in_err-change.field-0.0 (c.in_err-change.ensures {u = _}).change in
    rw (p.1, p.2) (record { planned = refused })

pub change_list-requires : goal.change_list-requires
change_list-requires c = record {
  place = change_placed (Add c.args.scope c.args.name.now c.args.formula.now) c.args.workbook.now c.requires.rules c.in_ok-change.change (c.in_ok-change.ensures {u = _}).change.done;
  numbers = (c.in_ok-change.ensures {u = _}).numbers;
}

pub returns : goal.returns
returns c = record {
  planned = change_planned (Add c.args.scope c.args.name.now c.args.formula.now) c.args.workbook.now c.requires.rules c.in_ok-change.change (c.in_ok-change.ensures {u = _}).change.done
      c.change_list.result c.change_list.ensures.only c.change_list.ensures.output c.change_list.ensures.canonical;
}
