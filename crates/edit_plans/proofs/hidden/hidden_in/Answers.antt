use Rattle.std.proofs.Common.{pos, to_z, of_z, w64, sym, subst, ◌∙◌}
use Rattle.std.proofs.lemmas.Int.{to_z-of_z}
use Rattle.std.proofs.lemmas.Map.Iter.{rest_more, rest_all}
use Rattle.std.specs.Map.Iter.{deref_pair}
use Rattle.std.specs.List.{All}
use Rattle.std.specs.FinMap.{entries}
use Rattle.base_values.specs.Places.{IsLine}
use Rattle.base_maps.specs.laws.Turns.{rest_hold}
use Rattle.edit_plans.specs.HiddenLines.{is_hidden_between, hidden_in}
use Rattle.edit_plans.proofs.Counting.{Counts, counts_none, turn_fits, turn_counted, counts_all, counts_fit}
use Rattle.edit_plans.proofs.hidden.hidden_in.Goals as goal

pub loop-line-init : goal.loop-line-init
loop-line-init g c =
    let same = c.into_iter-line-iterator.ensures.into_iter_gives in
    let all = c.iter-line-items.ensures.entries in (
      subst (λ es. Counts (is_hidden_between (to_z w64 (of_z w64 c.args.first)) (to_z w64 (of_z w64 c.args.last))) (entries c.args.lines.now) es (pos 0)) (sym (same ∙ all))
          (counts_none (is_hidden_between (to_z w64 (of_z w64 c.args.first)) (to_z w64 (of_z w64 c.args.last))) (entries c.args.lines.now)),
      subst (λ es. All (λ entry. IsLine g.B.Axis.along.last entry.0) es) (sym same) c.iter-line-items.ensures.inside,
    )

pub overflow_add-count : goal.overflow_add-count
overflow_add-count g c =
    let step = rest_more deref_pair c.loop-line.line-iterator c.next.new.self c.next.result (c.in-Some.line, c.in-Some.attr) c.in-Some.is c.next.ensures.steps in
    let inside = subst (λ es. All (λ entry. IsLine g.B.Axis.along.last entry.0) es) c.iter-line-items.ensures.entries c.iter-line-items.ensures.inside in
    turn_fits (is_hidden_between (to_z w64 (of_z w64 c.args.first)) (to_z w64 (of_z w64 c.args.last))) g.B.Axis.along.last g.met.B.Axis.lawful.last_low g.met.B.Axis.lawful.last_high
    c.args.lines.now inside c.loop-line.line-iterator c.next.new.self (c.in-Some.line.now, c.in-Some.attr.now) c.loop-line.invariant.1 step
    (to_z w64 c.loop-line.count-bits) c.counted-count.result c.loop-line.invariant.0 c.counted-count.ensures

pub loop-line-preserved : goal.loop-line-preserved
loop-line-preserved g c =
    let step = rest_more deref_pair c.loop-line.line-iterator c.next.new.self c.next.result (c.in-Some.line, c.in-Some.attr) c.in-Some.is c.next.ensures.steps in
    let inside = subst (λ es. All (λ entry. IsLine g.B.Axis.along.last entry.0) es) c.iter-line-items.ensures.entries c.iter-line-items.ensures.inside in (
      turn_counted (is_hidden_between (to_z w64 (of_z w64 c.args.first)) (to_z w64 (of_z w64 c.args.last))) g.B.Axis.along.last g.met.B.Axis.lawful.last_low g.met.B.Axis.lawful.last_high
          c.args.lines.now inside c.loop-line.line-iterator c.next.new.self (c.in-Some.line.now, c.in-Some.attr.now) c.loop-line.invariant.1 step
          (to_z w64 c.loop-line.count-bits) c.counted-count.result c.loop-line.invariant.0 c.counted-count.ensures,
      rest_hold (λ e. IsLine g.B.Axis.along.last e.0) c.loop-line.invariant.1 step,
    )

pub returns-clause-counted : goal.returns-clause-counted
returns-clause-counted g c =
    let over = rest_all deref_pair c.loop-line.line-iterator c.next.new.self c.next.result c.in-None.is c.next.ensures.steps in
    counts_all _ (entries c.args.lines.now) c.loop-line.line-iterator (to_z w64 c.loop-line.count-bits) over c.loop-line.invariant.0
    ∙ (λ i. pos (hidden_in c.args.lines.now (to_z-of_z w64 c.args.first c.ranges.first i) (to_z-of_z w64 c.args.last c.ranges.last i)))

pub returns-clause-few : goal.returns-clause-few
returns-clause-few g c =
    let inside = subst (λ es. All (λ entry. IsLine g.B.Axis.along.last entry.0) es) c.iter-line-items.ensures.entries c.iter-line-items.ensures.inside in
    (counts_fit _ g.B.Axis.along.last c.args.lines.now c.loop-line.line-iterator (to_z w64 c.loop-line.count-bits) g.met.B.Axis.lawful.last_low g.met.B.Axis.lawful.last_high inside c.loop-line.invariant.0).1
