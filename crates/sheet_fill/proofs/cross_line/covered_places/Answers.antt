use Rattle.std.proofs.Common.{◌≡◌, ◌+◌, suc, [], ◌∷◌, ◌++◌, ap, sym, ◌∙◌, arith}
use Rattle.sheet_fill.specs.Targets.{covered_among}
use Rattle.sheet_fill.proofs.cross_line.covered_places.Goals as goal

pub loop-index-preserved : goal.loop-index-preserved
loop-index-preserved g c =
    let more : c.loop-index.index + 1 ≡ suc c.loop-index.index = omega arith in
    c.in_ok-push.ensures.items ∙ (λ i. c.loop-index.invariant i ++ c.source_covered.ensures i ∷ [])
    ∙ sym (ap (covered_among g.A.Axis.along c.args.fill.now.range c.args.fill.now.sheet.now c.args.at) more)
