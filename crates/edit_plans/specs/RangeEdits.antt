-- Edits of ranges: styles that are changed or taken away, and contents and cells that are.
use Rattle.std.proofs.Common.{ℕ, ℤ, pos, ◌+ℤ◌, ◌-ℤ◌, Bool, true, false, ◌&&◌, List, [], ◌∷◌, length, Result, Ok, Err}
use Rattle.std.specs.Prelude.{◌≡◌, ◌⊎◌, ◌==◌, if◌then◌else◌, int_le, is_ok, nat_lt}
use Rattle.std.specs.List.{list_all}
use Rattle.base_values.specs.declared.EditError.{EditError}
use Rattle.base_values.specs.declared.EditError.TheVariants.{InvalidArea, StyleValue, StylesShape}
use Rattle.base_values.specs.Answers.{and_then, map_ok}
use Rattle.base_axis.specs.declared.MergedCell.{MergedCell}
use Rattle.base_axis.specs.Rectangles.{anchor_place, is_inside}
use Rattle.base_styles.specs.declared.Style.{Style}
use Rattle.base_styles.specs.DefaultStyle.{default_style}
use Rattle.style_edits.specs.Updates.{updated_style}
use Rattle.sheet_rules.specs.WellFormed.{has_font}
use Rattle.sheet_grid.specs.Sheet.{Sheet}
use Rattle.sheet_grid.specs.Book.{Book, sheet_edit}
use Rattle.range_styles.specs.declared.AreaKind.TheVariants.{OtherPlaces}
use Rattle.range_styles.specs.declared.Clearing.{Clearing}
use Rattle.range_styles.specs.declared.SheetPlan.{SheetPlan}
use Rattle.range_styles.specs.declared.StyleRange.{StyleRange}
use Rattle.range_styles.specs.Clearing.{clear_area, clear_plan}
use Rattle.range_styles.specs.StyleRanges.{kind_of}
use Rattle.range_styles.specs.Tiles.{tiles}
use Rattle.range_styles.specs.Styled.{Accepts, StyleAt, planned_styles}
use Rattle.edit_plans.specs.SheetPlans.{with_plan}

-- a rectangle of places of the sheet, or the refusal of one that is empty or reaches outside
abbrev pub inside_area : MergedCell → Result MergedCell EditError
inside_area r = if is_inside r then Ok r else Err InvalidArea

-- a sheet where a plan is carried out, if there is no refusal
abbrev pub planned_in : Sheet → Result SheetPlan EditError → Result Sheet EditError
planned_in sheet plan = map_ok (λ planned. with_plan planned sheet) plan

-- ---- styles

-- the style of an answer, or the one before where that is a refusal
abbrev pub style_or : Style → Result Style EditError → Style
style_or style (Ok changed) = changed
style_or style (Err error) = style

-- what a value at a path makes of a style, and whether it may
abbrev pub updates : List ℕ → List ℕ → StyleAt
updates path value place style = style_or style (updated_style style path value)

abbrev pub may_update : List ℕ → List ℕ → Accepts
may_update path value place style = is_ok (updated_style style path value)

-- why not, where it may not: there is no such path, or that is no value of it
abbrev pub error_or : EditError → Result Style EditError → EditError
error_or other (Ok style) = other
error_or other (Err error) = error

abbrev pub update_refusal : List ℕ → List ℕ → EditError
update_refusal path value = error_or StyleValue (updated_style default_style path value)

abbrev pub whole_range : MergedCell → Bool → StyleRange
whole_range r clears = record { area = r; kind = kind_of r; clears = clears }

-- the sheet where the styles of a rectangle have another value at a path, or the first refusal: the rectangle is empty or reaches outside, or
-- one of the styles may not have it
abbrev pub styles_in : MergedCell → List ℕ → List ℕ → Sheet → Result Sheet EditError
styles_in r path value sheet =
    and_then (inside_area r) (λ area. planned_in sheet (planned_styles (whole_range area false) (updates path value) (may_update path value) (update_refusal path value) sheet))

-- the workbook where those of the sheet at an index have it. The first refusal is that there is no such sheet
unfoldable pub styles_set : ℕ → MergedCell → List ℕ → List ℕ → Book → Result Book EditError
styles_set index r path value book = sheet_edit book index (styles_in r path value)

-- the sheet where the styles of a rectangle are taken away, so that the default one shows
abbrev pub formats_in : MergedCell → Sheet → Result Sheet EditError
formats_in r sheet =
    and_then (inside_area r) (λ area. planned_in sheet (planned_styles (whole_range area true) (λ place style. default_style) (λ place style. true) StyleValue sheet))

unfoldable pub formats_cleared : ℕ → MergedCell → Book → Result Book EditError
formats_cleared index r book = sheet_edit book index (formats_in r)

-- ---- contents and cells

-- the sheet where a rectangle is cleared, or the first refusal: it is empty or reaches outside, or an array of more than one cell meets it and is
-- not inside it
abbrev pub cleared_in : Clearing → MergedCell → Sheet → Result Sheet EditError
cleared_in clearing r sheet = map_ok (λ area. with_plan (clear_plan clearing area sheet) sheet) (clear_area r sheet)

unfoldable pub range_cleared : ℕ → Clearing → MergedCell → Book → Result Book EditError
range_cleared index clearing r book = sheet_edit book index (cleared_in clearing r)

-- ---- pasted styles

-- how many columns rows of styles take: so many as the first one has
abbrev pub tile_width : List (List Style) → ℕ
tile_width [] = 0
tile_width (row ∷ rows) = length row

-- a list of rows of styles that may be laid over places as a tile: it is not empty, nor is its first row, its rows are of one length, and each font has
-- a size of 1 or more
abbrev pub is_tile : List (List Style) → Bool
is_tile styles = nat_lt 0 (tile_width styles) && (list_all (λ row. length row == tile_width styles) styles && list_all (λ row. list_all has_font row) styles)

-- the greater of two numbers
abbrev pub greater : ℤ → ℤ → ℤ
greater a b = if int_le a b then b else a

-- the rectangle from the first place of one that is viewed, as wide and as high as that one and the tile
abbrev pub pasted_area : List (List Style) → ℤ → ℤ → ℤ → ℤ → MergedCell
pasted_area styles first_row first_column last_row last_column = record {
  row = first_row;
  column = first_column;
  width = greater ((last_column -ℤ first_column) +ℤ pos 1) (pos (tile_width styles));
  height = greater ((last_row -ℤ first_row) +ℤ pos 1) (pos (length styles));
}

-- the same by a rectangle as a view has it: its first row, its first column, its last row and its last column
abbrev pub pasted_by : List (List Style) → List ℤ → MergedCell
pasted_by styles (first_row ∷ first_column ∷ last_row ∷ last_column ∷ []) = pasted_area styles first_row first_column last_row last_column
pasted_by styles range = pasted_area styles (pos 1) (pos 1) (pos 1) (pos 1)

-- a rectangle whose places get styles one by one, even if it consists of full columns or rows
abbrev pub tiled_range : MergedCell → StyleRange
tiled_range area = record { area = area; kind = OtherPlaces; clears = false }

-- the sheet where each place of a rectangle has the style of the tile there, or the refusal of a rectangle that is empty or reaches outside
abbrev pub pasted_in : MergedCell → List (List Style) → Sheet → Result Sheet EditError
pasted_in r styles sheet =
    and_then (inside_area r) (λ area. planned_in sheet (planned_styles (tiled_range area) (tiles styles (anchor_place r)) (λ place style. true) StyleValue sheet))

-- the workbook where those of the sheet at an index have it. The first refusal is that the styles are no tile
unfoldable pub styles_pasted : ℕ → MergedCell → List (List Style) → Book → Result Book EditError
styles_pasted index r styles book = if is_tile styles then sheet_edit book index (pasted_in r styles) else Err StylesShape

-- why styles are not pasted over the sheet that is viewed
abbrev pub IsPasteRefusal : EditError → Type 0
IsPasteRefusal error = (error ≡ StylesShape) ⊎ (error ≡ InvalidArea)
