use Rattle.std.proofs.Common.{◌≡◌, ◌+◌, suc, ◌&&◌, ◌∙◌, Bool, false, ap, sym, pos, ◌+ℤ◌, w32, to_z, of_z, arith, rules}
use Rattle.base_axis.specs.Along.{rows}
use Rattle.planned_maps.specs.laws.PlanWalks.{line_passes, rows_all}
use Rattle.range_styles.specs.Styled.{place_accepts}
use Rattle.range_styles.proofs.accept.accepts_rows.Goals as goal
use Rattle.range_styles.proofs.accept.accepts_rows.Goals.{then-all, else-all}

pub loop-index-preserved : goal.loop-index-preserved
loop-index-preserved g c =
    let passes = place_accepts c.args.range (g.C.StyleChange.takes c.args.change.now) c.args.sheet.now in
    let is : to_z w32 (of_z w32 c.row_at-row.result) ≡ c.args.range.area.row +ℤ pos c.loop-index.index = search rules in
    let here : Bool = line_passes passes rows c.args.range.area (c.args.range.area.row +ℤ pos c.loop-index.index) in
    let more : c.loop-index.index + 1 ≡ suc c.loop-index.index = omega arith in
    let all : c.if-all.all ≡ (c.loop-index.all && here) = elim c.if-all.branch [
      | then-all w ↦
          let e : (c.loop-index.all && here) ≡ here = ap (λ (b : Bool). b && here) w.if-all.true in
          w.all-is ∙ w.accepts_line-all.ensures ∙ ap (line_passes passes rows c.args.range.area) is ∙ sym e
      | else-all w ↦
          let e : (c.loop-index.all && here) ≡ false = ap (λ (b : Bool). b && here) w.if-all.false in
          w.all-is ∙ w.if-all.false ∙ sym e
    ] in
    all ∙ ap (λ (b : Bool). b && here) c.loop-index.invariant ∙ sym (ap (rows_all passes c.args.range.area) more)
