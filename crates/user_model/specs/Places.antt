-- Where edits go.
use Rattle.std.proofs.Common.{ℕ, ℤ, Result}
use Rattle.base_values.specs.declared.EditError.{EditError}
use Rattle.base_values.specs.declared.Position.{Position}
use Rattle.base_values.specs.Answers.{and_then, map_ok}
use Rattle.base_values.specs.Places.{place_of}
use Rattle.base_axis.specs.declared.MergedCell.{MergedCell}
use Rattle.base_axis.specs.Rectangles.{anchor_place}
use Rattle.sheet_grid.specs.Book.{Book, sheet_at}
use Rattle.edit_plans.specs.ArrayInputs.{array_area}
use Rattle.edit_plans.specs.Inputs.{input_place}
use Rattle.edit_plans.specs.RangeEdits.{inside_area}

-- the place at a row and a column of the sheet at an index where an input may go, or the first refusal
abbrev pub input_goes : ℕ → ℤ → ℤ → Book → Result Position EditError
input_goes index row column book = and_then (sheet_at book index) (λ sheet. input_place sheet row column)

-- the same of a link
abbrev pub link_goes : ℕ → ℤ → ℤ → Book → Result Position EditError
link_goes index row column book = and_then (sheet_at book index) (λ sheet. place_of row column)

-- a rectangle of the sheet at an index that an array may fill, or the first refusal
abbrev pub array_goes : ℕ → MergedCell → Book → Result MergedCell EditError
array_goes index r book = and_then (sheet_at book index) (λ sheet. array_area sheet r)

-- the first place of a rectangle of the sheet at an index, or the first refusal: no such sheet, the rectangle is empty or reaches outside
abbrev pub rule_goes : ℕ → MergedCell → Book → Result Position EditError
rule_goes index r book = and_then (sheet_at book index) (λ sheet. map_ok anchor_place (inside_area r))
