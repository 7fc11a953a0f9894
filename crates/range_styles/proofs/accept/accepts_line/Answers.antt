use Rattle.std.proofs.Common.{◌≡◌, ◌+◌, suc, ◌&&◌, ◌∙◌, Bool, false, ap, sym, w32, to_z, of_z, arith}
use Rattle.planned_maps.specs.Walks.{place_across}
use Rattle.planned_maps.specs.laws.PlanWalks.{line_all}
use Rattle.range_styles.specs.Styled.{place_accepts}
use Rattle.range_styles.proofs.accept.accepts_line.Goals as goal
use Rattle.range_styles.proofs.accept.accepts_line.Goals.{then-all, else-all}

pub loop-index-preserved : goal.loop-index-preserved
loop-index-preserved g c =
    let passes = place_accepts c.args.range (g.C.StyleChange.takes c.args.change.now) c.args.sheet.now in
    let line = to_z w32 (of_z w32 c.args.line) in
    let here : Bool = passes (place_across g.A.Axis.along c.args.range.area line c.loop-index.index) in
    let more : c.loop-index.index + 1 ≡ suc c.loop-index.index = omega arith in
    let all : c.if-all.all ≡ (c.loop-index.all && here) = elim c.if-all.branch [
      | then-all w ↦
          let e : (c.loop-index.all && here) ≡ here = ap (λ (b : Bool). b && here) w.if-all.true in
          w.all-is ∙ w.accepts_place-all.ensures ∙ ap passes c.place_across-place.ensures.place ∙ sym e
      | else-all w ↦
          let e : (c.loop-index.all && here) ≡ false = ap (λ (b : Bool). b && here) w.if-all.false in
          w.all-is ∙ w.if-all.false ∙ sym e
    ] in
    all ∙ ap (λ (b : Bool). b && here) c.loop-index.invariant ∙ sym (ap (line_all passes g.A.Axis.along c.args.range.area line) more)
