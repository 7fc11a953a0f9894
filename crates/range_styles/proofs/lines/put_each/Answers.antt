use Rattle.std.proofs.Common.{◌≡◌, ◌+◌, suc, ◌∙◌, ap, sym, pos, ◌+ℤ◌, w32, to_z, of_z, arith, rules}
use Rattle.base_axis.specs.Rectangles.{first_line}
use Rattle.planned_maps.specs.laws.PlanWalks.{lines_put, put_one}
use Rattle.range_styles.specs.Styled.{line_styled}
use Rattle.range_styles.proofs.lines.put_each.Goals as goal

pub loop-index-preserved : goal.loop-index-preserved
loop-index-preserved g c =
    let make = line_styled g.A.Axis.along c.args.range (g.C.StyleChange.made_of c.args.change.now) c.args.lines.now in
    let first = first_line g.A.Axis.along c.args.range.area in
    let is : to_z w32 (of_z w32 c.line_in-line.result) ≡ first +ℤ pos c.loop-index.index = search rules in
    let more : c.loop-index.index + 1 ≡ suc c.loop-index.index = omega arith in
    c.in_ok-put_line.ensures.put ∙ (λ i. put_one make (c.loop-index.invariant i) (is i)) ∙ sym (ap (lines_put make first) more)
