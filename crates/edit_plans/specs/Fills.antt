-- Fills: what they change, and when they are refused.
use Rattle.std.proofs.Common.{ℕ, ℤ, Option, Result}
use Rattle.std.specs.FinMap.{FinMap, empty}
use Rattle.base_values.specs.declared.EditError.{EditError}
use Rattle.base_values.specs.Answers.{map_ok}
use Rattle.base_values.specs.Places.{position_cmp}
use Rattle.base_axis.specs.declared.MergedCell.{MergedCell}
use Rattle.base_tables.specs.declared.Language.{Language}
use Rattle.sheet_grid.specs.declared.Cell.{Cell}
use Rattle.sheet_grid.specs.declared.Link.{Link}
use Rattle.sheet_grid.specs.Sheet.{Sheet}
use Rattle.sheet_grid.specs.Book.{Book, sheet_edit}
use Rattle.sheet_fill.specs.declared.FillPlan.{FillPlan}
use Rattle.sheet_fill.specs.Plans.{planned_in}
use Rattle.range_styles.specs.declared.SheetPlan.{SheetPlan}
use Rattle.sheet_history.specs.declared.LineAxis.{LineAxis}
use Rattle.sheet_history.specs.LineDiffs.{along_of}
use Rattle.edit_plans.specs.SheetPlans.{with_plan}

-- what a fill puts at places, as a plan of a sheet: no line changes
abbrev pub places_plan : FinMap position_cmp (Option Cell) → FinMap position_cmp (Option Link) → SheetPlan
places_plan cells links = record { cells = cells; links = links; columns = empty; rows = empty }

-- the sheet that the plan of a fill makes
abbrev pub with_fill : Sheet → FillPlan → Sheet
with_fill sheet plan = record (with_plan (places_plan plan.cells plan.links) sheet) { merges = plan.merges }

-- the workbook after a fill of rows or of columns of the sheet at an index, from a rectangle to a line, or the first refusal
unfoldable pub fill_made : ℕ → LineAxis → MergedCell → ℤ → Language → Book → Result Book EditError
fill_made index axis source to language book =
    sheet_edit book index (λ sheet. map_ok (with_fill sheet) (planned_in (along_of axis) source to book.locale language sheet))
