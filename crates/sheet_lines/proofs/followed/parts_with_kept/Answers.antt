use Rattle.std.proofs.Common.{ap, sym, ◌∙◌}
use Rattle.std.specs.Bool.{then_some}
use Rattle.line_routes.specs.RouteModel.{route_model}
use Rattle.sheet_lines.specs.Part.{part_kept}
use Rattle.sheet_lines.specs.Parts.{parts, only_lost}
use Rattle.sheet_lines.specs.laws.Stays.{lost_places}
use Rattle.sheet_lines.proofs.followed.parts_with_kept.Goals as goal

pub returns-in_ok-carried-clause-kept : goal.returns-in_ok-carried-clause-kept
returns-in_ok-carried-clause-kept g c =
    let w = route_model c.args.on.now.route in
    let sheet = c.args.on.now.sheet.now in
    let lost = c.requires.lost ∙ lost_places w c.if-on.true sheet.cells in
    λ i. then_some (sym c.if-on.true i)
    ((c.in_ok-carried.ensures.kept ∙ (λ j. part_kept parts w sheet ((c.of_cells-kept.ensures ∙ ap only_lost lost) j))) i)
