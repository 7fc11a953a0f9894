use Rattle.std.proofs.Common.{◌≡◌, ◌+◌, suc, ◌∙◌, ap, sym, subst, pos, ◌+ℤ◌, w32, to_z, of_z, arith, rules}
use Rattle.std.proofs.lemmas.Int.{ints}
use Rattle.base_values.specs.Places.{IsLine}
use Rattle.base_axis.specs.Along.{rows}
use Rattle.planned_maps.specs.laws.PlanWalks.{line_done, rows_put}
use Rattle.range_styles.proofs.walk.put_rows.Goals as goal

pub put_line-requires-clause-line : goal.put_line-requires-clause-line
put_line-requires-clause-line g c =
    let on = c.row_at.ensures.inside in
    let key : to_z w32 (of_z w32 c.row_at.result) ≡ c.row_at.result = omega (arith, ints, on.0, on.1) in
    subst (IsLine (pos 1048576)) (sym key) on

pub loop-index-preserved : goal.loop-index-preserved
loop-index-preserved g c =
    let make = g.E.PlaceEdit.make c.args.edit.now in
    let is : to_z w32 (of_z w32 c.row_at.result) ≡ c.args.area.row +ℤ pos c.loop-index.index = search rules in
    let more : c.loop-index.index + 1 ≡ suc c.loop-index.index = omega arith in
    c.in_ok-put_line.ensures.put
    ∙ (λ i. line_done make rows c.args.area (is i) (c.loop-index.invariant i))
    ∙ sym (ap (rows_put make c.args.area c.args.planned.now) more)
