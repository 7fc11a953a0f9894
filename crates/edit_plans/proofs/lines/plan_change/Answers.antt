use Rattle.std.proofs.Common.{◌≡◌, ℕ, ℤ, Result, Ok, Err, ap, rules, subst, sym, ◌∙◌, w32, SFits}
use Rattle.std.specs.Prelude.{IfOk, IsTrue}
use Rattle.std.proofs.lemmas.Int.{to_z-of_z}
use Rattle.std.proofs.lemmas.Result.{err_from_is_err_and}
use Rattle.base_values.specs.declared.EditError.{EditError}
use Rattle.line_sizes.specs.declared.LineChange.{LineChange}
use Rattle.line_sizes.specs.LineChanges.{lines_from}
use Rattle.edit_plans.specs.LineRecords.{change_fits}
use Rattle.edit_plans.specs.Plans.{Plans}
use Rattle.edit_plans.specs.LineEdits.{attrs_set}
use Rattle.edit_plans.specs.laws.LinePlans.{attrs_no_sheet, attrs_refused, attrs_unchanged, attrs_planned}
use Rattle.edit_plans.proofs.lines.plan_change.Goals as goal

pub returns-in_err-found : goal.returns-in_err-found
returns-in_err-found c =
    let p = err_from_is_err_and c.from_residual.result c.from_residual.ensures.1 in
    let refused = attrs_no_sheet c.args.workbook.now c.args.sheet c.args.axis c.args.first c.args.last c.args.change c.in_err-found.field-0.0 (sym c.in_err-found.ensures) in
    rw (p.1, p.2) (record { planned = refused })

pub returns-in_err-count : goal.returns-in_err-count
returns-in_err-count c =
    let first_fits : SFits w32 c.args.first = c.ranges.first in
    let last_fits : SFits w32 c.args.last = c.ranges.last in
    let end_fits : SFits w32 c.axis_end-end.result = search rules in
    let p = err_from_is_err_and c.from_residual-in_err-count.result c.from_residual-in_err-count.ensures.1 in
    let outside = subst (λ (end : ℤ). ◌≡◌ {A = Result ℕ EditError} (Err c.in_err-count.field-0.0) (lines_from end c.args.first c.args.last)) c.axis_end-end.ensures.end (simp to_z-of_z at c.in_err-count.ensures.count) in
    rw (p.1, p.2)
    (record {
      planned = attrs_refused c.args.workbook.now c.args.sheet c.args.axis c.args.first c.args.last c.in_ok-found.found.now (sym (c.in_ok-found.ensures {u = _})) c.args.change c.in_err-count.field-0.0 (sym outside);
    })

pub returns-in_err-output : goal.returns-in_err-output
returns-in_err-output c =
    let first_fits : SFits w32 c.args.first = c.ranges.first in
    let last_fits : SFits w32 c.args.last = c.ranges.last in
    let end_fits : SFits w32 c.axis_end-end.result = search rules in
    let p = err_from_is_err_and c.from_residual-in_err-output.result c.from_residual-in_err-output.ensures.1 in
    let is = c.in_err-output.was in
    let from = subst (λ (end : ℤ). ◌≡◌ {A = Result ℕ EditError} (Ok c.in_ok-count.count) (lines_from end c.args.first c.args.last)) c.axis_end-end.ensures.end (simp to_z-of_z at (c.in_ok-count.ensures {u = _}).count) in
    let planned = attrs_unchanged c.args.workbook.now c.args.sheet c.args.axis c.args.first c.args.last c.in_ok-found.found.now (sym (c.in_ok-found.ensures {u = _}))
    c.in_ok-count.count (sym from) c.in_err-output.field-0.0 (λ short. c.requires.sure (is ∙ ap Err short)) in
    rw (p.1, p.2)
    (record {
      planned = subst (λ (change : Result LineChange EditError). Plans (Err c.in_err-output.field-0.0) c.args.workbook.now (attrs_set c.args.sheet c.args.axis c.args.first c.args.last change c.args.workbook.now)) (sym is) planned;
    })

pub returns : goal.returns
returns c =
    let first_fits : SFits w32 c.args.first = c.ranges.first in
    let last_fits : SFits w32 c.args.last = c.ranges.last in
    let end_fits : SFits w32 c.axis_end-end.result = search rules in
    let is = c.in_ok-output.was in
    let fits = subst (λ (r : Result LineChange EditError). IfOk r (λ output. IsTrue (change_fits c.args.axis output))) is c.requires.fits in
    let from = subst (λ (end : ℤ). ◌≡◌ {A = Result ℕ EditError} (Ok c.in_ok-count.count) (lines_from end c.args.first c.args.last)) c.axis_end-end.ensures.end (simp to_z-of_z at (c.in_ok-count.ensures {u = _}).count) in
    let planned = attrs_planned c.args.workbook.now c.args.sheet c.args.axis c.args.first c.args.last c.in_ok-found.found.now (sym (c.in_ok-found.ensures {u = _}))
    c.in_ok-count.count (sym from) c.requires.rules c.in_ok-output.output fits c.line_list.result (simp to_z-of_z at c.line_list.ensures.output) c.line_list.ensures.canonical c.line_list.ensures.only in
    record {
      planned = subst (λ (change : Result LineChange EditError). Plans c.line_list.result c.args.workbook.now (attrs_set c.args.sheet c.args.axis c.args.first c.args.last change c.args.workbook.now)) (sym is) planned;
    }
