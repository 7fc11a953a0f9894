-- The plan of a fill.
use Rattle.std.proofs.Common.{ℤ, Option, Result}
use Rattle.std.specs.Prelude.{IfSome}
use Rattle.std.specs.FinMap.{FinMap, get}
use Rattle.base_values.specs.declared.EditError.{EditError}
use Rattle.base_values.specs.declared.Position.{Position}
use Rattle.base_values.specs.Answers.{and_then, map_ok}
use Rattle.base_values.specs.Places.{position_cmp}
use Rattle.base_axis.specs.declared.Area.{Area}
use Rattle.base_axis.specs.declared.MergedCell.{MergedCell}
use Rattle.base_axis.specs.Along.{Along}
use Rattle.base_tables.specs.declared.Language.{Language}
use Rattle.base_tables.specs.declared.Locale.{Locale}
use Rattle.planned_maps.specs.Planned.{planned_places}
use Rattle.sheet_grid.specs.declared.Cell.{Cell}
use Rattle.sheet_grid.specs.declared.Link.{Link}
use Rattle.sheet_grid.specs.CanonicalCell.{IsCanonicalCell}
use Rattle.sheet_grid.specs.Sheet.{Sheet}
use Rattle.sheet_grid.specs.Book.{Book, sheet_at}
use Rattle.sheet_fill.specs.declared.range.FillRange.{FillRange}
use Rattle.sheet_fill.specs.declared.plan.FillPlan.{FillPlan}
use Rattle.sheet_fill.specs.FillRanges.{range_of, source_of}
use Rattle.sheet_fill.specs.Targets.{place_filled, place_linked}
use Rattle.sheet_fill.specs.Tiles.{merges_filled, range_tested}

-- the cells and the links that a fill puts at the places of its target
abbrev pub cells_filled : Along → FillRange → Locale → Language → Sheet → FinMap position_cmp (Option Cell)
cells_filled a f locale language sheet = planned_places (place_filled a f locale language sheet) f.target

abbrev pub links_filled : Along → FillRange → Sheet → FinMap position_cmp (Option Link)
links_filled a f sheet = planned_places (place_linked a f sheet) f.target

-- the plan of a fill that is not refused
abbrev pub plan_of : Along → Locale → Language → Sheet → FillRange → FillPlan
plan_of a locale language sheet f = record {
  cells = cells_filled a f locale language sheet;
  links = links_filled a f sheet;
  merges = merges_filled a f sheet.merges;
}

-- the plan of a fill that goes on from a rectangle of a sheet to a line, or the first refusal
abbrev pub planned_in : Along → MergedCell → ℤ → Locale → Language → Sheet → Result FillPlan EditError
planned_in a source to locale language sheet =
    map_ok (plan_of a locale language sheet) (and_then (range_of a source to) (λ f. range_tested a f sheet))

-- the plan of a fill of the sheet that an area names. The first refusal is that there is no such sheet
unfoldable pub fill_planned : Along → Area → ℤ → Language → Book → Result FillPlan EditError
fill_planned a area to language book = and_then (sheet_at book area.sheet) (planned_in a (source_of area) to book.locale language)

-- every number of the cells that a plan puts is canonical
abbrev pub CanonicalFill : FinMap position_cmp (Option Cell) → Type 0
CanonicalFill cells = (place : Position) → IfSome (get cells place) (λ entry. IfSome entry IsCanonicalCell)
