use Rattle.std.proofs.Common.{◌≡◌, ◌∙◌, ap, sym, subst, ℤ, w32, to_z, of_z, arith}
use Rattle.std.proofs.lemmas.Int.{ints}
use Rattle.std.proofs.lemmas.Map.Iter.{rest_more}
use Rattle.std.proofs.lemmas.Map.Lookups.{exact_signed}
use Rattle.std.specs.Cmp.{int_cmp_total}
use Rattle.std.specs.Map.Iter.{deref_pair}
use Rattle.base_values.specs.Places.{IsLine}
use Rattle.base_maps.specs.laws.Inverses.{own_inverse}
use Rattle.base_maps.specs.laws.Loops.{made_on, made_all}
use Rattle.base_maps.specs.laws.Turns.{first_holds, rest_hold}
use Rattle.planned_maps.specs.laws.PlanWalks.{put_one}
use Rattle.range_styles.specs.Styled.{line_styled}
use Rattle.range_styles.specs.laws.KeptLaws.{put_is_made}
use Rattle.range_styles.proofs.lines.put_kept.Goals as goal

pub put_line-requires : goal.put_line-requires
put_line-requires g c =
    let turn = rest_more deref_pair c.loop-line.line-iterator c.next.new.self c.next.result (c.in-Some.line, c.in-Some._attr) c.in-Some.is
    c.next.ensures.steps in
    let on : IsLine g.A.Axis.along.last c.in-Some.line.now = first_holds (λ e. IsLine g.A.Axis.along.last e.0) c.loop-line.invariant.1 turn in
    let last = g.met.A.Axis.lawful.last_high in
    let key : to_z w32 (of_z w32 c.in-Some.line.now) ≡ c.in-Some.line.now = omega (arith, ints, on.0, on.1, last) in
    subst (IsLine g.A.Axis.along.last) (sym key) on

pub loop-line-preserved : goal.loop-line-preserved
loop-line-preserved g c =
    let turn = rest_more deref_pair c.loop-line.line-iterator c.next.new.self c.next.result (c.in-Some.line, c.in-Some._attr) c.in-Some.is
    c.next.ensures.steps in
    let on : IsLine g.A.Axis.along.last c.in-Some.line.now = first_holds (λ e. IsLine g.A.Axis.along.last e.0) c.loop-line.invariant.1 turn in
    let last = g.met.A.Axis.lawful.last_high in
    let key : to_z w32 (of_z w32 c.in-Some.line.now) ≡ c.in-Some.line.now = omega (arith, ints, on.0, on.1, last) in (
      made_on int_cmp_total exact_signed c.loop-line.invariant.0 own_inverse (c.in-Some.line, c.in-Some._attr) c.in-Some.is c.next.ensures.steps
          (c.in_ok-put_line.ensures.put
          ∙ ap (λ (n : ℤ). put_one (line_styled g.A.Axis.along c.args.range (g.C.StyleChange.made_of c.args.change.now) c.args.lines.now) c.loop-line.planned
          n) key
          ∙ put_is_made (line_styled g.A.Axis.along c.args.range (g.C.StyleChange.made_of c.args.change.now) c.args.lines.now) c.loop-line.planned
          c.in-Some.line.now c.in-Some._attr.now),
      rest_hold (λ e. IsLine g.A.Axis.along.last e.0) c.loop-line.invariant.1 turn,
    )

pub returns-clause-put : goal.returns-clause-put
returns-clause-put g c = made_all int_cmp_total exact_signed c.loop-line.invariant.0 own_inverse c.next.new.self c.in-None.is c.next.ensures.steps
