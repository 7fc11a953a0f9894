-- Lines of a sheet as numbers of the machine.
use Rattle.std.proofs.Common.{◌≡◌, ℤ, pos, ◌≤ℤ◌, Option, Some, arith, to_z, of_z, w32, w64, refl, true}
use Rattle.std.proofs.lemmas.Int.{ints}
use Rattle.base_values.specs.declared.Position.{Position}
use Rattle.formula_tree.specs.declared.corner.Corner.{Corner}
use Rattle.formula_tree.specs.Corners.{corner_row, corner_column, is_inside, corner_at}

-- a line keeps its value when it is written in 32 bits
pub narrowed : (n line : ℤ) → n ≡ line → pos 1 ≤ℤ line → line ≤ℤ pos 1048576 → to_z w32 (of_z w32 (to_z w64 (of_z w64 n))) ≡ line
narrowed n line same low high = omega (arith, ints)

-- the lines of a corner inside
pub record Lines (place : Position) (corner : Corner) : Type 0 where
  pub row_low : pos 1 ≤ℤ corner_row place corner
  pub row_high : corner_row place corner ≤ℤ pos 1048576
  pub column_low : pos 1 ≤ℤ corner_column place corner
  pub column_high : corner_column place corner ≤ℤ pos 16384

pub inside_lines : (place : Position) (corner : Corner) → is_inside place corner ≡ true → Lines place corner
unfolding is_inside
inside_lines place corner inside = record {
  row_low = grind (arith, ints);
  row_high = grind (arith, ints);
  column_low = grind (arith, ints);
  column_high = grind (arith, ints);
}

-- where a corner inside stands
pub stands_at : (place : Position) (corner : Corner) (row column : ℤ) → is_inside place corner ≡ true → row ≡ corner_row place corner → column ≡ corner_column place corner
    → ◌≡◌ {A = Option Position} (Some (record { row = row; column = column })) (corner_at place corner)
unfolding corner_at
stands_at place corner row column inside at_row at_column = rw (inside, at_row, at_column) refl

-- the bounds of a line that is passed on in 32 bits
pub record Passed (line : ℤ) : Type 0 where
  pub low : pos 1 ≤ℤ to_z w32 (of_z w32 line)
  pub high : to_z w32 (of_z w32 line) ≤ℤ pos 1048576

pub passed : (line : ℤ) → pos 1 ≤ℤ line → line ≤ℤ pos 1048576 → Passed line
passed line low high = record { low = omega (arith, ints); high = omega (arith, ints) }
