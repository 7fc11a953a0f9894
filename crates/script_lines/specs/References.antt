-- The names of cells, as B3: one to three letters for the column, one to seven digits for the row; and of areas, as B3:A1.
use Rattle.std.proofs.Common.{◌+ℤ◌, ◌-ℤ◌}
use Rattle.std.specs.Prelude.{◌≡◌, ℕ, ℤ, pos, negsuc, ◌&&◌, List, [], ◌∷◌, ◌++◌, length, take, drop, int_le, if◌then◌else◌, decimal}
use Rattle.std.specs.List.{prefix_len}
use Rattle.std.specs.Option.{option_and_then, option_map}
use Rattle.std.specs.declared.option.Option.{Option}
use Rattle.std.specs.declared.option.Option.TheVariants.{Some, None}
use Rattle.script_lines.specs.declared.reference.Reference.{Reference}
use Rattle.base_values.specs.declared.position.Position.{Position}
use Rattle.base_values.specs.Places.{IsPlace}
use Rattle.base_axis.specs.declared.MergedCell.{MergedCell}
use Rattle.base_tables.specs.Column.{is_between, is_letter, letters_number, column_letters}
use Rattle.script_lines.specs.Number.{are_digits, value_of}
use Rattle.script_lines.specs.Parts.{parts_at}

-- the column of one to three letters
abbrev pub read_column : List ℕ → Option ℕ
read_column letters = if is_between 1 3 (length letters) then Some (letters_number letters) else None

-- the row of one to seven digits
abbrev pub read_row : List ℕ → Option ℕ
read_row digits = if is_between 1 7 (length digits) && are_digits digits then Some (value_of digits) else None

-- the letters at the front
abbrev pub letters_of : List ℕ → List ℕ
letters_of bytes = take (prefix_len is_letter bytes) bytes

-- what follows the letters at the front
abbrev pub digits_of : List ℕ → List ℕ
digits_of bytes = drop (prefix_len is_letter bytes) bytes

-- the row and column that the bytes name
abbrev pub reference_of : List ℕ → Option Reference
reference_of bytes =
    option_and_then (λ column. option_map (λ row. record { row = pos row; column = pos column }) (read_row (digits_of bytes))) (read_column (letters_of bytes))

-- of the lines from one to another, in any order, the first
abbrev pub first_between : ℤ → ℤ → ℤ
first_between a b = if int_le a b then a else b

-- and how many they are, both ends counted
abbrev pub count_between : ℤ → ℤ → ℤ
count_between a b = if int_le a b then (b -ℤ a) +ℤ pos 1 else (a -ℤ b) +ℤ pos 1

-- the area of one place
abbrev pub area_at : Reference → MergedCell
area_at place = record { row = place.row; column = place.column; width = pos 1; height = pos 1 }

-- the area of two corners, which may be any two that are opposite
abbrev pub area_between : Reference → Reference → MergedCell
area_between a b = record {
  row = first_between a.row b.row;
  column = first_between a.column b.column;
  width = count_between a.column b.column;
  height = count_between a.row b.row;
}

-- one place, or two corners
abbrev pub area_of_parts : List (List ℕ) → Option MergedCell
area_of_parts (place ∷ []) = option_map area_at (reference_of place)
area_of_parts (one ∷ other ∷ []) = option_and_then (λ a. option_map (area_between a) (reference_of other)) (reference_of one)
area_of_parts parts = None

-- the area that the bytes name: the corners are parted by a colon
abbrev pub area_of : List ℕ → Option MergedCell
area_of bytes = area_of_parts (parts_at 58 bytes)

-- a line of a sheet as a number without a sign: lines are counted from 1
abbrev pub line_number : ℤ → ℕ
line_number (pos n) = n
line_number (negsuc n) = 0

-- the name of a place
abbrev pub reference_text : Position → List ℕ
reference_text place = column_letters (line_number place.column) ++ decimal (line_number place.row)

-- the name of a place names that place
abbrev pub IsReadAgain : Type 0
IsReadAgain = (place : Position) → IsPlace place → reference_of (reference_text place) ≡ Some (record { row = place.row; column = place.column })
