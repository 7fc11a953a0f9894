-- The parts of a sheet that go along with its lines, besides its cells.
use Rattle.std.specs.Prelude.{true, false, List, Option, None, if◌then◌else◌}
use Rattle.std.specs.Ordering.{int_cmp, nat_cmp}
use Rattle.std.specs.FinMap.{FinMap, empty}
use Rattle.base_values.specs.Places.{position_cmp}
use Rattle.base_axis.specs.Along.{rows, columns}
use Rattle.base_axis.specs.declared.MergedCell.{MergedCell}
use Rattle.base_maps.specs.Carried.{lost_map, moved_map, overlaid}
use Rattle.format_rules.specs.declared.ConditionalFormatting.{ConditionalFormatting}
use Rattle.line_edits.specs.Moves.{place_image}
use Rattle.line_map.specs.Attributes.{lines_carried, lines_restored}
use Rattle.line_map.specs.Maps.{lost_along, places_carried}
use Rattle.line_routes.specs.Merges.{merges_carried, merges_part}
use Rattle.line_routes.specs.RouteModel.{RouteModel, back, place_goes}
use Rattle.line_map.specs.Rules.{rules_carried, rules_kept}
use Rattle.sheet_grid.specs.declared.Cell.{Cell}
use Rattle.sheet_grid.specs.declared.LineAttr.{LineAttr}
use Rattle.sheet_grid.specs.declared.Link.{Link}
use Rattle.sheet_grid.specs.contracts.line_attr.LineAttrPartialEq.TheImpl as attribute
use Rattle.sheet_lines.specs.declared.kept.KeptLines.{KeptLines}
use Rattle.sheet_lines.specs.Part.{Part, joined, merges_back, formattings_back}
use Rattle.sheet_lines.specs.laws.PartLaws.{links_regained, lines_regained, merges_regained, formattings_regained}

-- the entries of places without an image
abbrev pub lost_of : {X : Type 0} → RouteModel → FinMap position_cmp X → FinMap position_cmp X
lost_of w m = lost_map (place_image w.along w.moves.to) m

-- the links: each goes with its place, and those are kept that go nowhere
abbrev pub part_of_links : Part
part_of_links = record {
  Value = FinMap position_cmp Link;
  Kept = FinMap position_cmp Link;
  value_of = λ sheet. sheet.links;
  with_value = λ entries links. record entries { links = links };
  kept_in = λ kept. kept.links;
  with_kept = λ kept links. record kept { links = links };
  carried = places_carried (λ _ link. link);
  kept = lost_of;
  restored = λ w lost links. overlaid (lost_along w.is_edited lost) (moved_map (place_goes (back w)) (place_goes w) links);
  restores = links_regained;
}

-- what rows and columns have: it goes with its lines, and of lines of the edited axis it is kept that go nowhere
abbrev pub part_of_lines : Part
part_of_lines = record {
  Value = FinMap int_cmp LineAttr × FinMap int_cmp LineAttr;
  Kept = FinMap int_cmp LineAttr;
  value_of = λ sheet. (sheet.rows, sheet.columns);
  with_value = λ entries lines. record entries { rows = lines.0; columns = lines.1 };
  kept_in = λ kept. kept.lines;
  with_kept = λ kept lines. record kept { lines = lines };
  carried = λ w lines. (lines_carried rows attribute.ghosts.eq w lines.0, lines_carried columns attribute.ghosts.eq w lines.1);
  kept = λ w lines. lost_map w.moves.to (if w.along.of true false then lines.0 else lines.1);
  restored = λ w lost lines. (lines_restored rows w lines.0 lost, lines_restored columns w lines.1 lost);
  restores = lines_regained;
}

-- the merges, kept whole where the way back does not give them
abbrev pub part_of_merges : Part
part_of_merges = record {
  Value = List MergedCell;
  Kept = Option (List MergedCell);
  value_of = λ sheet. sheet.merges;
  with_value = λ entries merges. record entries { merges = merges };
  kept_in = λ kept. kept.merges;
  with_kept = λ kept merges. record kept { merges = merges };
  carried = merges_carried;
  kept = merges_part;
  restored = merges_back;
  restores = merges_regained;
}

-- the conditional rules, of which each is kept, under its index, that the way back does not give
abbrev pub part_of_rules : Part
part_of_rules = record {
  Value = List ConditionalFormatting;
  Kept = FinMap nat_cmp ConditionalFormatting;
  value_of = λ sheet. sheet.formattings;
  with_value = λ entries rules. record entries { formattings = rules };
  kept_in = λ kept. kept.formattings;
  with_kept = λ kept rules. record kept { formattings = rules };
  carried = rules_carried;
  kept = rules_kept;
  restored = formattings_back;
  restores = formattings_regained;
}

-- all of them
abbrev pub parts : Part
parts = joined part_of_links (joined part_of_lines (joined part_of_merges part_of_rules))

-- lost cells, and nothing else
abbrev pub only_lost : FinMap position_cmp Cell → KeptLines
only_lost cells = record { cells = cells; links = empty; lines = empty; formulas = empty; merges = None; formattings = empty }
