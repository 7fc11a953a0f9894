use Rattle.std.proofs.Common.{◌∙◌, ap}
use Rattle.planned_maps.specs.laws.PlanWalks.{places_put}
use Rattle.range_styles.specs.laws.WalkedPlaces.{entries_planned}
use Rattle.range_styles.proofs.walk.plan_entries.Goals as goal

pub returns-clause-output : goal.returns-clause-output
returns-clause-output g c =
    let make = g.E.PlaceEdit.make c.args.edit.now in
    c.in_ok-put_entries.ensures.put
    ∙ ap (λ m. places_put make m c.args.there.now) c.new-planned.ensures
    ∙ entries_planned make (g.E.PlaceEdit.area_of c.args.edit.now) (g.met.E.PlaceEdit.inside c.args.edit.now) c.args.there.now c.requires
