use Rattle.std.proofs.Common.{rules, ◌-◌, ◌^◌, ℤ, sym, ap, subst, ◌∙◌, arith}
use Rattle.std.specs.Prelude.{FitsSigned, unsigned_abs, ◌≤◌}
use Rattle.std.specs.Int.{w128}
use Rattle.sheet_progress.specs.Numbers.{units}
use Rattle.sheet_progress.proofs.Rounded.{rounded_places, rounded_within, units_are}
use Rattle.sheet_progress.proofs.number.rounded_units.Goals as goal

pub overflow_sub-rounded : goal.overflow_sub-rounded
overflow_sub-rounded c = rounded_places _ _ c.requires c.round15-rounded.ensures.value

pub overflow_mul-result : goal.overflow_mul-result
overflow_mul-result c =
    let d = c.args.number.now in
    let r = c.round15-rounded.result in
    let fits : FitsSigned w128 r.mantissa = search rules in
    (units_are r.mantissa c.ten_to.result (15 - r.places) fits c.ten_to.ensures (omega arith) (rounded_within d r c.requires c.round15-rounded.ensures.value c.round15-rounded.ensures.nearest)).0

pub returns-clause-value : goal.returns-clause-value
returns-clause-value c =
    let d = c.args.number.now in
    let r = c.round15-rounded.result in
    let fits : FitsSigned w128 r.mantissa = search rules in
    (units_are r.mantissa c.ten_to.result (15 - r.places) fits c.ten_to.ensures (omega arith) (rounded_within d r c.requires c.round15-rounded.ensures.value c.round15-rounded.ensures.nearest)).1
    ∙ ap units c.round15-rounded.ensures.value

pub returns-clause-within : goal.returns-clause-within
returns-clause-within c =
    let d = c.args.number.now in
    let r = c.round15-rounded.result in
    let fits : FitsSigned w128 r.mantissa = search rules in
    let within = rounded_within d r c.requires c.round15-rounded.ensures.value c.round15-rounded.ensures.nearest in
    subst (λ (z : ℤ). unsigned_abs z ≤ 10 ^ 30) (sym (units_are r.mantissa c.ten_to.result (15 - r.places) fits c.ten_to.ensures (omega arith) within).1) within
