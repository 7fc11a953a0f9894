use Rattle.std.proofs.Common.{◌≡◌, ap, ◌∙◌, to_z, of_z, w32, rules}
use Rattle.sheet_fill.specs.Tiles.{offset, shifted}
use Rattle.sheet_fill.proofs.tiles.tile.Goals as goal

pub returns : goal.returns
returns g c =
    let a = g.A.Axis.along in
    let by : to_z w32 (of_z w32 c.offset.result) ≡ offset a c.args.range c.args.index = search rules in
    c.shifted.ensures ∙ ap (λ lines. shifted a lines c.args.merge) by
