use Rattle.std.proofs.Common.{◌≡◌, ◌+◌, suc, ◌&&◌, ◌∙◌, Bool, false, ap, sym, pos, ◌+ℤ◌, w32, to_z, of_z, arith, rules}
use Rattle.base_axis.specs.Rectangles.{first_line}
use Rattle.planned_maps.specs.laws.PlanWalks.{lines_all}
use Rattle.range_styles.specs.Styled.{line_accepts}
use Rattle.range_styles.proofs.lines.accepts_each.Goals as goal
use Rattle.range_styles.proofs.lines.accepts_each.Goals.{then-all, else-all}

pub loop-index-preserved : goal.loop-index-preserved
loop-index-preserved g c =
    let passes = line_accepts g.A.Axis.along c.args.range (g.C.StyleChange.takes c.args.change.now) c.args.lines.now in
    let first = first_line g.A.Axis.along c.args.range.area in
    let is : to_z w32 (of_z w32 c.line_in-line.result) ≡ first +ℤ pos c.loop-index.index = search rules in
    let here : Bool = passes (first +ℤ pos c.loop-index.index) in
    let more : c.loop-index.index + 1 ≡ suc c.loop-index.index = omega arith in
    let all : c.if-all.all ≡ (c.loop-index.all && here) = elim c.if-all.branch [
      | then-all w ↦
          let e : (c.loop-index.all && here) ≡ here = ap (λ (b : Bool). b && here) w.if-all.true in
          w.all-is ∙ w.accepts_line-all.ensures ∙ ap passes is ∙ sym e
      | else-all w ↦
          let e : (c.loop-index.all && here) ≡ false = ap (λ (b : Bool). b && here) w.if-all.false in
          w.all-is ∙ w.if-all.false ∙ sym e
    ] in
    all ∙ ap (λ (b : Bool). b && here) c.loop-index.invariant ∙ sym (ap (lines_all passes first) more)
