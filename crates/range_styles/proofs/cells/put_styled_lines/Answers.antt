use Rattle.std.proofs.Common.{◌≡◌, ◌∙◌, ap, sym, subst, ℤ, w32, to_z, of_z, arith, rules}
use Rattle.std.specs.FinMap.{entries}
use Rattle.std.specs.List.{All, fold}
use Rattle.sheet_grid.specs.declared.LineAttr.{LineAttr}
use Rattle.std.proofs.lemmas.Int.{ints}
use Rattle.std.proofs.lemmas.Map.Iter.{rest_all, rest_more}
use Rattle.std.specs.Map.Iter.{deref_pair}
use Rattle.base_values.specs.Places.{IsLine}
use Rattle.base_maps.specs.laws.Turns.{first_holds, rest_hold}
use Rattle.range_styles.specs.StyleRanges.{has_own_style}
use Rattle.range_styles.proofs.PlanLoops.{ends, goes_on, line_put}
use Rattle.range_styles.proofs.cells.put_styled_lines.Goals as goal

pub put_styled-requires-clause-line : goal.put_styled-requires-clause-line
put_styled-requires-clause-line g c =
    let turn = rest_more deref_pair c.loop-line.line-iterator c.next.new.self c.next.result (c.in-Some.line, c.in-Some.attr) c.in-Some.is c.next.ensures.steps
    in
    let on : IsLine g.A.Axis.along.last c.in-Some.line.now = first_holds (λ e. IsLine g.A.Axis.along.last e.0) c.loop-line.invariant.1 turn in
    let last = g.met.A.Axis.lawful.last_high in
    let key : to_z w32 (of_z w32 c.in-Some.line.now) ≡ c.in-Some.line.now = omega (arith, ints, on.0, on.1, last) in
    subst (IsLine g.A.Axis.along.last) (sym key) on

pub loop-line-preserved : goal.loop-line-preserved
loop-line-preserved g c =
    let turn = rest_more deref_pair c.loop-line.line-iterator c.next.new.self c.next.result (c.in-Some.line, c.in-Some.attr) c.in-Some.is c.next.ensures.steps
    in
    let on : IsLine g.A.Axis.along.last c.in-Some.line.now = first_holds (λ e. IsLine g.A.Axis.along.last e.0) c.loop-line.invariant.1 turn in
    let last = g.met.A.Axis.lawful.last_high in
    let key : to_z w32 (of_z w32 c.in-Some.line.now) ≡ c.in-Some.line.now = omega (arith, ints, on.0, on.1, last) in
    let put = line_put (g.E.PlaceEdit.make c.args.edit.now) has_own_style g.A.Axis.along (g.E.PlaceEdit.area_of c.args.edit.now)
    in (
      goes_on put c.loop-line.invariant.0 (deref_pair (c.in-Some.line, c.in-Some.attr)) c.next.new.self turn
          (c.in_ok-put_styled.ensures.put ∙ ap (λ (n : ℤ). put c.loop-line.cells (n, c.in-Some.attr.now)) key),
      rest_hold (λ e. IsLine g.A.Axis.along.last e.0) c.loop-line.invariant.1 turn,
    )

pub returns-clause-put : goal.returns-clause-put
returns-clause-put g c =
    ends (line_put (g.E.PlaceEdit.make c.args.edit.now) has_own_style g.A.Axis.along (g.E.PlaceEdit.area_of c.args.edit.now))
    c.loop-line.invariant.0 (rest_all deref_pair c.loop-line.line-iterator c.next.new.self c.next.result c.in-None.is c.next.ensures.steps)

pub loop-line-init : goal.loop-line-init
loop-line-init g c =
    let all : c.into_iter-line-iterator.result ≡ entries c.args.lines.now = search rules in
    let gives : c.into_iter-line-iterator.result ≡ c.iter-line-items.result = search rules in
    let put = line_put (g.E.PlaceEdit.make c.args.edit.now) has_own_style g.A.Axis.along (g.E.PlaceEdit.area_of c.args.edit.now)
    in (
      ap (fold put c.args.cells.now) all,
      subst (All (λ (e : ℤ × LineAttr). IsLine g.A.Axis.along.last e.0)) (sym gives) c.iter-line-items.ensures.inside,
    )
