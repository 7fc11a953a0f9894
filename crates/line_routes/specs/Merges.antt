-- The merges of a sheet, carried along.
use Rattle.std.specs.Prelude.{List, Option, Some, if◌then◌else◌}
use Rattle.std.specs.List.{All, filter_map}
use Rattle.base_axis.specs.declared.MergedCell.{MergedCell}
use Rattle.base_axis.specs.contracts.merge_list.MergeListPartialEq.TheImpl as equality
use Rattle.base_axis.specs.Rectangles.{IsInside, first_line, last_line, across, with_lines}
use Rattle.base_maps.specs.Carried.{if_there}
use Rattle.line_routes.specs.Trial.{part_by_trial}
use Rattle.line_routes.specs.RouteModel.{RouteModel}

-- a merge on the lines where the map leaves it, across the same cross lines, if it is not dropped
abbrev pub merge_carried : RouteModel → MergedCell → Option MergedCell
merge_carried w merge =
    if_there (w.moves.merged (first_line w.along merge) (last_line w.along merge) (across w.along merge))
    (λ lines. Some (with_lines w.along merge lines.0 lines.1))

-- on the edited sheet the merges that are left, in their order. On another one they stay
unfoldable pub merges_carried : RouteModel → List MergedCell → List MergedCell
merges_carried w merges = if w.is_edited then filter_map (merge_carried w) merges else merges

-- the whole list, where the way back does not give it
abbrev pub merges_part : RouteModel → List MergedCell → Option (List MergedCell)
merges_part w merges = part_by_trial equality.ghosts.eq merges_carried w merges

-- each merge is inside the sheet
abbrev pub MergesInside : List MergedCell → Type 0
MergesInside merges = All IsInside merges
