use Rattle.std.proofs.Common.{◌≡◌, ◌+◌, suc, ap, sym, ◌∙◌, arith}
use Rattle.std.specs.Prelude.{◌||◌}
use Rattle.sheet_fill.specs.Tiles.{cuts_some, is_cut}
use Rattle.sheet_fill.proofs.tiles.cuts_some.Goals as goal

pub loop-index-preserved : goal.loop-index-preserved
loop-index-preserved g c =
    let more : c.loop-index.index + 1 ≡ suc c.loop-index.index = omega arith in
    c.either-is_any.ensures ∙ (λ i. c.loop-index.invariant i || (c.is_cut.ensures ∙ ap (is_cut c.args.range) c.tile.ensures) i)
    ∙ sym (ap (cuts_some g.A.Axis.along c.args.range c.args.merge) more)
