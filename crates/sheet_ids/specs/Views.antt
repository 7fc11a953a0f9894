-- What a user has selected of a workbook.
use Rattle.std.specs.Prelude.{◌≡◌, ◌<◌, ℕ, ℤ, pos, Bool, true, false, ◌&&◌, int_le, List, [], ◌∷◌, Result, Ok, Err, if◌then◌else◌}
use Rattle.base_values.specs.declared.EditError.{EditError}
use Rattle.base_values.specs.declared.EditError.TheVariants.{InvalidArea}
use Rattle.sheet_ids.specs.declared.view.View.{View}

-- a rectangle by its first row, its first column, its last row and its last column
abbrev pub range_from : ℤ → ℤ → ℤ → ℤ → List ℤ
range_from first_row first_column last_row last_column = first_row ∷ first_column ∷ last_row ∷ last_column ∷ []

-- A1
abbrev pub first_range : List ℤ
first_range = range_from (pos 1) (pos 1) (pos 1) (pos 1)

-- the first sheet, at A1
abbrev pub first_view : View
first_view = record { sheet = 0; range = first_range }

-- two lines of an axis that ends with a line, the second one not before the first
abbrev pub are_lines : ℤ → ℤ → ℤ → Bool
are_lines end first last = int_le (pos 1) first && int_le first last && int_le last end

abbrev pub is_range : ℤ → ℤ → ℤ → ℤ → Bool
is_range first_row first_column last_row last_column = are_lines (pos 1048576) first_row last_row && are_lines (pos 16384) first_column last_column

-- that rectangle of the same sheet, or the refusal of one that is none
abbrev pub range_chosen : View → ℤ → ℤ → ℤ → ℤ → Result View EditError
range_chosen view first_row first_column last_row last_column =
    if is_range first_row first_column last_row last_column then Ok (record view { range = range_from first_row first_column last_row last_column }) else Err InvalidArea

-- whether numbers are a rectangle inside a sheet
abbrev pub is_rectangle : List ℤ → Bool
is_rectangle (first_row ∷ first_column ∷ last_row ∷ last_column ∷ []) = is_range first_row first_column last_row last_column
is_rectangle numbers = false

-- it names one of so many sheets, and a rectangle inside it
pub record IsViewOf (count : ℕ) (view : View) : Type 0 where
  pub there : view.sheet < count
  pub inside : is_rectangle view.range ≡ true
