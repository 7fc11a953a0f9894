use Rattle.std.proofs.Common.{◌≡◌, ◌+◌, suc, [], ◌∷◌, ◌++◌, ap, sym, ◌∙◌, arith}
use Rattle.std.specs.Prelude.{if◌then◌else◌}
use Rattle.sheet_fill.specs.FillRanges.{source_place}
use Rattle.sheet_fill.specs.Targets.{source_covered, text_at, texts}
use Rattle.sheet_fill.proofs.cross_line.source_texts.Goals as goal

pub loop-index-preserved : goal.loop-index-preserved
loop-index-preserved g c =
    let fill = c.args.fill.now in
    let more : c.loop-index.index + 1 ≡ suc c.loop-index.index = omega arith in
    c.in_ok-push_text.ensures.texts
    ∙ (λ i. c.loop-index.invariant i
    ++ (if source_covered g.A.Axis.along fill.range fill.sheet.now c.args.at c.loop-index.index then []
    else text_at fill.locale fill.language fill.sheet.now (source_place g.A.Axis.along fill.range c.args.at c.loop-index.index) ∷ []))
    ∙ sym (ap (texts g.A.Axis.along fill.range fill.locale fill.language fill.sheet.now c.args.at) more)
