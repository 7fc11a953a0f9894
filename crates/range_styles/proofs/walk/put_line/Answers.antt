use Rattle.std.proofs.Common.{◌≡◌, ◌+◌, suc, ◌∙◌, ap, sym, subst, w32, to_z, of_z, arith}
use Rattle.std.proofs.lemmas.Int.{to_z-of_z}
use Rattle.base_values.specs.Places.{IsLine}
use Rattle.planned_maps.specs.laws.PlanWalks.{line_put, put_one}
use Rattle.range_styles.proofs.walk.put_line.Goals as goal

pub put_place-requires : goal.put_place-requires
put_place-requires g c =
    c.place_across.ensures.inside (subst (IsLine g.A.Axis.along.last) (sym (to_z-of_z w32 c.args.line c.ranges.line)) c.requires.line)

pub loop-index-preserved : goal.loop-index-preserved
loop-index-preserved g c =
    let make = g.E.PlaceEdit.make c.args.edit.now in
    let more : c.loop-index.index + 1 ≡ suc c.loop-index.index = omega arith in
    c.in_ok-put_place.ensures.put
    ∙ (λ i. put_one make (c.loop-index.invariant i) (c.place_across.ensures.place i))
    ∙ sym (ap (line_put make g.A.Axis.along c.args.area (to_z w32 (of_z w32 c.args.line)) c.args.planned.now) more)
