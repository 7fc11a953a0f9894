use Rattle.std.proofs.Common.{ap, ◌∙◌}
use Rattle.sheet_grid.specs.Merges.{is_covered}
use Rattle.sheet_fill.proofs.NamedPlaces.{same_numbers}
use Rattle.sheet_fill.proofs.cross_line.source_covered.Goals as goal

pub returns : goal.returns
returns g c =
    c.is_covered_cell.ensures
    ∙ ap (is_covered c.args.fill.now.sheet.now.merges) (same_numbers c.source_place-place.result c.source_place-place.ensures.inside ∙ c.source_place-place.ensures.place)
