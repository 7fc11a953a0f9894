-- Contents, cells and links of a rectangle that are taken away.
use Rattle.std.proofs.Common.{Bool, ◌&&◌, Option, Some, None, Result, Ok, Err}
use Rattle.std.specs.Prelude.{not, if◌then◌else◌}
use Rattle.std.specs.List.{list_any}
use Rattle.std.specs.Option.{option_map}
use Rattle.std.specs.FinMap.{empty, get}
use Rattle.base_values.specs.declared.EditError.{EditError}
use Rattle.base_values.specs.declared.EditError.TheVariants.{InvalidArea, PartialArray}
use Rattle.base_values.specs.declared.Position.{Position}
use Rattle.base_axis.specs.declared.MergedCell.{MergedCell}
use Rattle.base_axis.specs.Rectangles.{holds, is_inside, is_inside_of, meets}
use Rattle.cell_content.specs.declared.Content.TheVariants.{Empty}
use Rattle.sheet_grid.specs.declared.Cell.{Cell}
use Rattle.sheet_grid.specs.declared.Link.{Link}
use Rattle.sheet_grid.specs.Arrays.{large_arrays_of}
use Rattle.sheet_grid.specs.Sheet.{Sheet}
use Rattle.range_styles.specs.declared.plan.SheetPlan.{SheetPlan}
use Rattle.range_styles.specs.declared.clear.Clearing.{Clearing}
use Rattle.range_styles.specs.declared.clear.Clearing.TheVariants.{Contents, Cells}
use Rattle.planned_maps.specs.Planned.{planned_places}

-- an array meets a rectangle and is not inside it
abbrev pub is_cut : MergedCell → MergedCell → Bool
is_cut r array = meets array r && not (is_inside_of array r)

-- one of the arrays of more than one cell of a sheet is
abbrev pub cuts_array : MergedCell → Sheet → Bool
cuts_array r sheet = list_any (is_cut r) (large_arrays_of sheet)

-- a rectangle that may be cleared, or the first refusal: it is empty or reaches outside, an array is cut
abbrev pub clear_area : MergedCell → Sheet → Result MergedCell EditError
clear_area r sheet = if not (is_inside r) then Err InvalidArea else if cuts_array r sheet then Err PartialArray else Ok r

-- what is left of a cell: its style, or nothing
abbrev pub cleared_cell : Clearing → Cell → Option Cell
cleared_cell Contents cell = Some (record cell { content = Empty })
cleared_cell Cells cell = None

-- what the place of a rectangle gets: what is left of its cell, if it has one
abbrev pub place_cleared : Clearing → MergedCell → Sheet → Position → Option (Option Cell)
place_cleared clearing r sheet place = if holds r place then option_map (cleared_cell clearing) (get sheet.cells place) else None

-- a link of the rectangle goes
abbrev pub place_unlinked : MergedCell → Sheet → Position → Option (Option Link)
place_unlinked r sheet place = if holds r place then option_map (λ (link : Link). None) (get sheet.links place) else None

-- the plan of clearing a rectangle
abbrev pub clear_plan : Clearing → MergedCell → Sheet → SheetPlan
clear_plan clearing r sheet = record {
  cells = planned_places (place_cleared clearing r sheet) r;
  links = planned_places (place_unlinked r sheet) r;
  columns = empty;
  rows = empty;
}
