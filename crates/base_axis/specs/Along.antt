-- A direction of a sheet, as definitions speak of it.
use Rattle.std.proofs.Common.{◌≡◌, ◌⊎◌, Bool, true, false, ℤ, pos, ◌≤ℤ◌}
use Rattle.std.specs.Prelude.{if◌then◌else◌}
use Rattle.base_values.specs.declared.EditError.{EditError}
use Rattle.base_values.specs.declared.EditError.TheVariants.{InvalidColumn, InvalidRow}
use Rattle.base_values.specs.declared.Position.{Position}
use Rattle.base_values.specs.Places.{IsLine, IsPlace}

-- its last line, the line and the cross line of a place, a place put on a line, its choice of what holds of rows and of columns,
-- and its choice of a number of rows and one of columns
pub record Along : Type 0 where
  pub last : ℤ
  pub line : Position → ℤ
  pub cross : Position → ℤ
  pub with_line : Position → ℤ → Position
  pub of : Bool → Bool → Bool
  pub count_of : ℤ → ℤ → ℤ

-- from row to row
abbrev pub rows : Along
rows = record {
  last = pos 1048576;
  line = λ p. p.row;
  cross = λ p. p.column;
  with_line = λ p line. record p { row = line };
  of = λ row column. row;
  count_of = λ rows columns. rows;
}

-- from column to column
abbrev pub columns : Along
columns = record {
  last = pos 16384;
  line = λ p. p.column;
  cross = λ p. p.row;
  with_line = λ p line. record p { column = line };
  of = λ row column. column;
  count_of = λ rows columns. columns;
}

-- the refusal of a line that is not one of the axis
abbrev pub outside : Along → EditError
outside a = if a.of true false then InvalidRow else InvalidColumn

-- the laws of an axis: the line put in is the line got, the cross line stays, and putting a place's own line changes nothing
pub record IsAxis (a : Along) : Type 0 where
  pub last_low : pos 1 ≤ℤ a.last
  pub last_high : a.last ≤ℤ pos 1048576
  pub line_put : (p : Position) (line : ℤ) → a.line (a.with_line p line) ≡ line
  pub cross_stays : (p : Position) (line : ℤ) → a.cross (a.with_line p line) ≡ a.cross p
  pub own_line : (p : Position) → a.with_line p (a.line p) ≡ p
  pub put_twice : (p : Position) (m n : ℤ) → a.with_line (a.with_line p m) n ≡ a.with_line p n
  pub line_inside : (p : Position) → IsPlace p → IsLine a.last (a.line p)
  pub put_inside : (p : Position) (line : ℤ) → IsPlace p → IsLine a.last line → IsPlace (a.with_line p line)
  pub one_of : (a ≡ rows) ⊎ (a ≡ columns)
