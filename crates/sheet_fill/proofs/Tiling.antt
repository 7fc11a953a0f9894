-- Merges of the source are inside the sheet, and repetitions lie not further from it than the sheet is long.
use Rattle.std.proofs.Common.{◌≡◌, ◌⊎◌, inl, inr, ℤ, pos, ◌-ℤ◌, ◌≤ℤ◌, Bool, true, false, ◌&&◌, refl, sym, subst, arith}
use Rattle.std.proofs.lemmas.Int.{ints}
use Rattle.std.specs.Prelude.{int_le}
use Rattle.base_values.specs.Places.{IsPlace}
use Rattle.base_axis.specs.declared.MergedCell.{MergedCell}
use Rattle.base_axis.specs.Along.{Along, IsAxis, rows, columns}
use Rattle.base_axis.specs.Rectangles.{anchor_place, is_part, last_column, last_row, is_inside_of, meets}
use Rattle.base_axis.specs.laws.RectangleLaws.{meets_found}
use Rattle.sheet_fill.specs.declared.range.FillRange.{FillRange}
use Rattle.sheet_fill.specs.FillRanges.{IsRange}
use Rattle.sheet_fill.specs.Tiles.{is_repeated}

both : (a b : Bool) → (a && b) ≡ true → (a ≡ true) × (b ≡ true)
both true b h = (refl, h)
both false b h = absurd (let never : ◌≡◌ {A = Bool} false true = h in cc)

le : (m n : ℤ) → int_le m n ≡ true → m ≤ℤ n
le m n h = grind (arith, ints)

-- a rectangle within another begins at its first row and column or behind
within_low : (r s : MergedCell) → is_inside_of r s ≡ true → (s.row ≤ℤ r.row) × (s.column ≤ℤ r.column)
unfolding is_inside_of
within_low r s h =
    let p = both (is_part r.row (last_row r) s.row (last_row s)) (is_part r.column (last_column r) s.column (last_column s)) h in
    let in_rows = both (int_le s.row r.row) (int_le (last_row r) (last_row s)) p.0 in
    let in_columns = both (int_le s.column r.column) (int_le (last_column r) (last_column s)) p.1 in
    (le s.row r.row in_rows.0, le s.column r.column in_columns.0)

-- the first place of a merge of the source is one of the sheet
pub repeated_place : (f : FillRange) → IsRange f → (merge : MergedCell) → is_repeated f merge ≡ true → IsPlace (anchor_place merge)
repeated_place f is merge repeated =
    let tests = both (meets merge f.source) (is_inside_of merge f.source) repeated in
    let touches = meets_found merge f.source tests.0 in
    let low = within_low merge f.source tests.1 in
    let first_row = is.source.first.0.0 in
    let first_column = is.source.first.1.0 in
    let last_row_high = is.source.last.0.1 in
    let last_column_high = is.source.last.1.1 in
    let row_here = touches.rows_here in
    let column_here = touches.columns_here in
    let row_low = low.0 in
    let column_low = low.1 in
    ((omega (arith, ints), omega (arith, ints)), (omega (arith, ints), omega (arith, ints)))

module _ (a : Along) (is : IsAxis a) (by : ℤ) (low : (pos 0 -ℤ pos 2097152) ≤ℤ by) (high : by ≤ℤ pos 2097152) where
  by_axis : (P : Along → Type 0) → P rows → P columns → P a
  by_axis P of_rows of_columns = go is.one_of
    where
      go : (a ≡ rows) ⊎ (a ≡ columns) → P a
      go (inl e) = subst P (sym e) of_rows
      go (inr e) = subst P (sym e) of_columns

  none_low : (pos 0 -ℤ pos 2097152) ≤ℤ pos 0
  none_low = omega (arith, ints)

  none_high : pos 0 ≤ℤ pos 2097152
  none_high = omega (arith, ints)

  -- by so many rows and by so many columns a repetition is moved, of which one is none
  pub rows_low : (pos 0 -ℤ pos 2097152) ≤ℤ a.count_of by (pos 0)
  rows_low = by_axis (λ a. (pos 0 -ℤ pos 2097152) ≤ℤ a.count_of by (pos 0)) low none_low

  pub rows_high : a.count_of by (pos 0) ≤ℤ pos 2097152
  rows_high = by_axis (λ a. a.count_of by (pos 0) ≤ℤ pos 2097152) high none_high

  pub columns_low : (pos 0 -ℤ pos 2097152) ≤ℤ a.count_of (pos 0) by
  columns_low = by_axis (λ a. (pos 0 -ℤ pos 2097152) ≤ℤ a.count_of (pos 0) by) none_low low

  pub columns_high : a.count_of (pos 0) by ≤ℤ pos 2097152
  columns_high = by_axis (λ a. a.count_of (pos 0) by ≤ℤ pos 2097152) none_high high
