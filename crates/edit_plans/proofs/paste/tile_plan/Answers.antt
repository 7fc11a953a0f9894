use Rattle.std.proofs.Common.{Vec, Global, map}
use Rattle.std.proofs.lemmas.Result.{err_from_is_err_and}
use Rattle.base_values.specs.declared.EditError.TheVariants.{StyleValue}
use Rattle.base_axis.specs.Rectangles.{anchor_place}
use Rattle.base_styles.specs.declared.Style.{Style}
use Rattle.range_styles.specs.Tiles.{tiles}
use Rattle.edit_plans.specs.RangeEdits.{tiled_range}
use Rattle.edit_plans.proofs.Pasting.{tiles_short}
use Rattle.edit_plans.proofs.paste.tile_plan.Goals as goal

pub returns-in_err-rows-clause-plan : goal.returns-in_err-rows-clause-plan
returns-in_err-rows-clause-plan c =
    let p = err_from_is_err_and c.from_residual.result c.from_residual.ensures.1 in
    rw (p.1, p.2)
    (tiles_short (tiled_range c.args.area) (tiles (map (λ (row : Vec Style Global). row.items) c.args.styles.now) (anchor_place c.args.area))
    StyleValue c.args.found.now
    c.in_err-rows.field-0.0 c.in_err-rows.ensures.only)
