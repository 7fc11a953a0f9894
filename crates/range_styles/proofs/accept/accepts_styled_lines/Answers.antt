use Rattle.std.proofs.Common.{◌≡◌, ◌&&◌, ◌∙◌, Bool, ap, sym, subst, ℤ, w32, to_z, of_z, arith, rules}
use Rattle.std.proofs.lemmas.Int.{ints}
use Rattle.std.proofs.lemmas.Map.Iter.{rest_all, rest_more}
use Rattle.std.specs.FinMap.{entries}
use Rattle.std.specs.List.{All, list_all}
use Rattle.std.specs.Map.Iter.{deref_pair}
use Rattle.base_values.specs.Places.{IsLine}
use Rattle.base_maps.specs.laws.Turns.{first_holds, rest_hold}
use Rattle.sheet_grid.specs.declared.LineAttr.{LineAttr}
use Rattle.range_styles.specs.StyleRanges.{has_own_style}
use Rattle.range_styles.specs.Styled.{place_accepts}
use Rattle.range_styles.proofs.PlanLoops.{line_test, tests_end, tests_on}
use Rattle.range_styles.proofs.accept.accepts_styled_lines.Goals as goal

pub loop-line-init : goal.loop-line-init
loop-line-init g c =
    let all : c.into_iter-line-iterator.result ≡ entries c.args.lines.now = search rules in
    let gives : c.into_iter-line-iterator.result ≡ c.iter-line-items.result = search rules in (
      ap (list_all (line_test (place_accepts c.args.range (g.C.StyleChange.takes c.args.change.now) c.args.sheet.now) has_own_style g.A.Axis.along
          c.args.range.area)) all,
      subst (All (λ (e : ℤ × LineAttr). IsLine g.A.Axis.along.last e.0)) (sym gives) c.iter-line-items.ensures.inside,
    )

pub loop-line-preserved-then-all : goal.loop-line-preserved-then-all
loop-line-preserved-then-all g c =
    let turn = rest_more deref_pair c.loop-line.line-iterator c.next.new.self c.next.result (c.in-Some.line, c.in-Some.attr) c.in-Some.is c.next.ensures.steps
    in
    let on : IsLine g.A.Axis.along.last c.in-Some.line.now = first_holds (λ e. IsLine g.A.Axis.along.last e.0) c.loop-line.invariant.1 turn in
    let last = g.met.A.Axis.lawful.last_high in
    let key : to_z w32 (of_z w32 c.in-Some.line.now) ≡ c.in-Some.line.now = omega (arith, ints, on.0, on.1, last) in
    let test = line_test (place_accepts c.args.range (g.C.StyleChange.takes c.args.change.now) c.args.sheet.now) has_own_style g.A.Axis.along
    c.args.range.area in
    let here : Bool = test (c.in-Some.line.now, c.in-Some.attr.now) in (
      tests_on test c.loop-line.all c.loop-line.invariant.0 (deref_pair (c.in-Some.line, c.in-Some.attr)) c.next.new.self turn
          (c.accepts_styled-all.ensures ∙ ap (λ (n : ℤ). test (n, c.in-Some.attr.now)) key ∙ sym (ap (λ (b : Bool). b && here) c.if-all.true)),
      rest_hold (λ e. IsLine g.A.Axis.along.last e.0) c.loop-line.invariant.1 turn,
    )

pub loop-line-preserved : goal.loop-line-preserved
loop-line-preserved g c =
    let turn = rest_more deref_pair c.loop-line.line-iterator c.next.new.self c.next.result (c.in-Some.line, c.in-Some.attr) c.in-Some.is c.next.ensures.steps
    in
    let test = line_test (place_accepts c.args.range (g.C.StyleChange.takes c.args.change.now) c.args.sheet.now) has_own_style g.A.Axis.along
    c.args.range.area in
    let here : Bool = test (c.in-Some.line.now, c.in-Some.attr.now) in (
      tests_on test c.loop-line.all c.loop-line.invariant.0 (deref_pair (c.in-Some.line, c.in-Some.attr)) c.next.new.self turn
          (c.if-all.false ∙ sym (ap (λ (b : Bool). b && here) c.if-all.false)),
      rest_hold (λ e. IsLine g.A.Axis.along.last e.0) c.loop-line.invariant.1 turn,
    )

pub returns : goal.returns
returns g c =
    tests_end (line_test (place_accepts c.args.range (g.C.StyleChange.takes c.args.change.now) c.args.sheet.now) has_own_style g.A.Axis.along c.args.range.area)
    c.loop-line.all c.loop-line.invariant.0 (rest_all deref_pair c.loop-line.line-iterator c.next.new.self c.next.result c.in-None.is c.next.ensures.steps)
