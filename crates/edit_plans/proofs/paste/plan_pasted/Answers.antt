use Rattle.std.proofs.Common.{Vec, Global, Err, map, ap}
use Rattle.std.proofs.lemmas.Result.{err_from_is_err_and}
use Rattle.base_styles.specs.declared.Style.{Style}
use Rattle.edit_plans.proofs.Pasting.{shape_refused, tile_passed}
use Rattle.edit_plans.proofs.Ranges.{pasted_plans}
use Rattle.edit_plans.proofs.paste.plan_pasted.Goals as goal

pub returns-in_err-test_tile : goal.returns-in_err-test_tile
returns-in_err-test_tile c =
    let p = err_from_is_err_and c.from_residual.result c.from_residual.ensures.1 in
    let styles = map (λ (row : Vec Style Global). row.items) c.args.styles.now in
    rw (p.1, p.2)
    (record {
      planned = shape_refused c.args.workbook.now c.args.sheet c.args.area styles c.in_err-test_tile.field-0.0
          c.in_err-test_tile.ensures.tested (λ short. c.in_err-test_tile.ensures.sure (ap Err short));
    })

pub returns : goal.returns
returns c =
    let styles = map (λ (row : Vec Style Global). row.items) c.args.styles.now in
    record {
      planned = pasted_plans c.args.workbook.now c.args.sheet c.args.area styles c.plan_tiles.result
          (tile_passed styles c.in_ok-test_tile.ensures.tested) c.plan_tiles.ensures.planned;
    }
