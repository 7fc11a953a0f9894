-- Places of a sheet, and their order.
use Rattle.std.proofs.Common.{ℤ, pos, ◌≤ℤ◌, Bool, ◌&&◌, Result, Ok, Err, refl}
use Rattle.std.specs.declared.cmp.Ordering.{Ordering}
use Rattle.std.specs.Ordering.{int_cmp, int_eq, ordering_then}
use Rattle.std.specs.Coded.{Coded, code_by, coded×, coded_ℤ}
use Rattle.std.specs.Prelude.{int_le, if◌then◌else◌, Option, Some, None}
use Rattle.base_values.specs.declared.position.Position.{Position}
use Rattle.base_values.specs.declared.error.EditError.{EditError}
use Rattle.base_values.specs.declared.error.EditError.TheVariants.{InvalidRow, InvalidColumn}

-- by row, and then by column
abbrev pub position_cmp : Position → Position → Ordering
position_cmp a b = ordering_then (int_cmp a.row b.row) (int_cmp a.column b.column)

-- as a pair of numbers
abbrev pub coded_position : Coded Position
coded_position = code_by (ℤ × ℤ) (coded× coded_ℤ coded_ℤ) (λ p. (p.row, p.column)) (λ p. record { row = p.0; column = p.1 }) (λ _. refl)

-- a line of an axis with this last line
abbrev pub IsLine : ℤ → ℤ → Type 0
IsLine last line = (pos 1 ≤ℤ line) × (line ≤ℤ last)

-- a row of a sheet
abbrev pub IsRow : ℤ → Type 0
IsRow row = IsLine (pos 1048576) row

-- a column of a sheet
abbrev pub IsColumn : ℤ → Type 0
IsColumn column = IsLine (pos 16384) column

-- a place of a sheet
abbrev pub IsPlace : Position → Type 0
IsPlace place = IsRow place.row × IsColumn place.column

-- whether two positions are one
abbrev pub same_position : Position → Position → Bool
same_position a b = int_eq a.row b.row && int_eq a.column b.column

-- whether a line is one of an axis
abbrev pub is_line : ℤ → ℤ → Bool
is_line last line = int_le (pos 1) line && int_le line last

-- whether a position is a place of a sheet
abbrev pub is_place : Position → Bool
is_place place = is_line (pos 1048576) place.row && is_line (pos 16384) place.column

-- a line where it is one of an axis
unfoldable pub as_line : ℤ → ℤ → Option ℤ
as_line last line = if is_line last line then Some line else None

-- a line of an axis, or the refusal of one outside
unfoldable pub line_of : ℤ → ℤ → EditError → Result ℤ EditError
line_of last line refusal = if is_line last line then Ok line else Err refusal

-- the place at a row and a column, or the first of them that is outside
unfoldable pub place_of : ℤ → ℤ → Result Position EditError
place_of row column =
    if is_line (pos 1048576) row then (if is_line (pos 16384) column then Ok (record { row = row; column = column }) else Err InvalidColumn) else Err InvalidRow
