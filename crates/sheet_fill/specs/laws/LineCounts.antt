-- Lines and places of a source and a target that are inside the sheet.
use Rattle.std.proofs.Common.{◌≡◌, ◌⊎◌, inl, inr, ℕ, ◌<◌, ◌≤◌, ℤ, pos, ◌+ℤ◌, ◌≤ℤ◌, Bool, true, false, sym, subst, arith}
use Rattle.std.proofs.lemmas.Int.{ints}
use Rattle.std.specs.Prelude.{unsigned_abs}
use Rattle.base_values.specs.Places.{IsLine}
use Rattle.base_axis.specs.declared.MergedCell.{MergedCell}
use Rattle.base_axis.specs.Along.{Along, IsAxis, rows, columns}
use Rattle.base_axis.specs.Rectangles.{IsInside, holds, last_of, first_line, line_count, last_line}
use Rattle.base_axis.specs.laws.RectangleLaws.{first_inside, holds_passes, last_inside}
use Rattle.planned_maps.specs.Walks.{count_across, place_across}
use Rattle.sheet_fill.specs.FillRanges.{counted_line, lines}

-- what holds along both axes holds along an axis
pub by_axis : (P : Along → Type 0) → P rows → P columns → (a : Along) → IsAxis a → P a
by_axis P of_rows of_columns a is = go is.one_of
  where
    go : (a ≡ rows) ⊎ (a ≡ columns) → P a
    go (inl e) = subst P (sym e) of_rows
    go (inr e) = subst P (sym e) of_columns

-- so many lines from a first one on that end on the sheet are not more than the sheet has
few : (last first count : ℤ) → pos 1 ≤ℤ first → last_of first count ≤ℤ last → count ≤ℤ last
few last first count low high = omega (arith, ints)

-- a number that is not below 0 is the number of its size
own_size : (z : ℤ) → pos 1 ≤ℤ z → pos (unsigned_abs z) ≡ z
own_size z low = omega (arith, ints)

counted_low : (onwards : Bool) (first last : ℤ) (n : ℕ) → (first +ℤ pos n) ≤ℤ last → first ≤ℤ counted_line onwards first last n
counted_low true first last n few = omega (arith, ints)
counted_low false first last n few = omega (arith, ints)

counted_high : (onwards : Bool) (first last : ℤ) (n : ℕ) → (first +ℤ pos n) ≤ℤ last → counted_line onwards first last n ≤ℤ last
counted_high true first last n few = few
counted_high false first last n few = omega (arith, ints)

module _ (a : Along) (is : IsAxis a) (r : MergedCell) (inside : IsInside r) where
  some_lines : pos 1 ≤ℤ line_count a r
  some_lines = by_axis (λ a. pos 1 ≤ℤ line_count a r) inside.high inside.wide a is

  few_lines : line_count a r ≤ℤ pos 1048576
  few_lines =
      by_axis (λ a. line_count a r ≤ℤ pos 1048576) (few (pos 1048576) r.row r.height inside.first.0.0 inside.last.0.1)
      (let narrow = few (pos 16384) r.column r.width inside.first.1.0 inside.last.1.1 in omega (arith, ints)) a is

  -- the count of its lines, as a number of lines
  pub lines_is : pos (lines a r) ≡ line_count a r
  lines_is = own_size (line_count a r) some_lines

  pub lines_some : 0 < lines a r
  lines_some = let low = some_lines in let same = lines_is in omega (arith, ints)

  pub lines_few : lines a r ≤ 1048576
  lines_few = let high = few_lines in let same = lines_is in omega (arith, ints)

  -- a line of it, counted from the first one
  pub line_stands : (n : ℕ) → n < lines a r → (first_line a r +ℤ pos n) ≤ℤ last_line a r
  line_stands n below = let same = lines_is in omega (arith, ints)

  -- its lines are inside the sheet, which has at most so many
  pub first_low : pos 1 ≤ℤ first_line a r
  first_low = (first_inside a is r inside).0

  pub last_high : last_line a r ≤ℤ a.last
  last_high = (last_inside a is r inside).1

  pub last_far : last_line a r ≤ℤ pos 1048576
  last_far = let end = last_high in let most = is.last_high in omega (arith, ints)

  -- a line from the first to the last is one of the axis
  pub line_inside : (line : ℤ) → first_line a r ≤ℤ line → line ≤ℤ last_line a r → IsLine a.last line
  line_inside line low high = let first = first_low in let last = last_high in (omega (arith, ints), omega (arith, ints))

  -- a line counted from the first one on, or from the last one back, is one of the axis
  pub counted_inside : (onwards : Bool) (n : ℕ) → n < lines a r → IsLine a.last (counted_line onwards (first_line a r) (last_line a r) n)
  counted_inside onwards n few =
      let low = counted_low onwards (first_line a r) (last_line a r) n (line_stands n few) in
      let high = counted_high onwards (first_line a r) (last_line a r) n (line_stands n few) in
      line_inside (counted_line onwards (first_line a r) (last_line a r) n) low high

module _ (r : MergedCell) (inside : IsInside r) (n : ℕ) where
  held_by_rows : n < unsigned_abs r.width → holds r (place_across rows r r.row n) ≡ true
  held_by_rows few =
      let high = inside.high in
      holds_passes r (place_across rows r r.row n) (record {
        row_low = omega (arith, ints);
        row_high = omega (arith, ints);
        column_low = omega (arith, ints);
        column_high = omega (arith, ints);
      })

  held_by_columns : n < unsigned_abs r.height → holds r (place_across columns r r.column n) ≡ true
  held_by_columns few =
      let wide = inside.wide in
      holds_passes r (place_across columns r r.column n) (record {
        row_low = omega (arith, ints);
        row_high = omega (arith, ints);
        column_low = omega (arith, ints);
        column_high = omega (arith, ints);
      })

  -- the place on a rectangle's first line and one of its cross lines is one of its places
  pub cross_held : (a : Along) (is : IsAxis a) → n < count_across a r → holds r (place_across a r (first_line a r) n) ≡ true
  cross_held a is = by_axis (λ a. n < count_across a r → holds r (place_across a r (first_line a r) n) ≡ true) held_by_rows held_by_columns a is
