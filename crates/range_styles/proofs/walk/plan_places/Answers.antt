use Rattle.std.proofs.Common.{◌∙◌}
use Rattle.std.specs.Prelude.{unsigned_abs}
use Rattle.planned_maps.specs.laws.PlanWalks.{rows_put}
use Rattle.range_styles.specs.laws.WalkedPlaces.{rows_planned}
use Rattle.range_styles.proofs.walk.plan_places.Goals as goal

pub returns-clause-output : goal.returns-clause-output
returns-clause-output g c =
    let make = g.E.PlaceEdit.make c.args.edit.now in
    c.in_ok-put_rows.ensures.put
    ∙ (λ i. rows_put make (c.area.ensures i) (c.new-planned.ensures i) (unsigned_abs (c.area.ensures i).height))
    ∙ rows_planned make (g.E.PlaceEdit.area_of c.args.edit.now) (g.met.E.PlaceEdit.inside c.args.edit.now)
