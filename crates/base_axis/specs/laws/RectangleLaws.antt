-- Laws of rectangles.
use Rattle.std.proofs.Common.{◌≡◌, ◌⊎◌, inl, inr, ℤ, pos, ◌≤ℤ◌, Bool, true, false, ◌&&◌, refl, sym, subst, arith}
use Rattle.std.proofs.lemmas.Int.{ints}
use Rattle.std.specs.Prelude.{◌||◌, int_le, int_lt}
use Rattle.base_values.specs.declared.Position.{Position}
use Rattle.base_values.specs.Places.{IsLine, IsPlace}
use Rattle.base_axis.specs.declared.merged_cell.MergedCell.{MergedCell}
use Rattle.base_axis.specs.Along.{Along, IsAxis, rows, columns}
use Rattle.base_axis.specs.Rectangles.{last_of, last_row, last_column, anchor_place, are_lines_inside, is_inside, IsInside, is_between, holds, has_many, overlap, meets, first_line, line_count, last_line, across, line_span, with_lines}

-- its first cross line, and its last
abbrev pub first_cross : Along → MergedCell → ℤ
first_cross a r = a.cross (anchor_place r)

abbrev pub last_cross : Along → MergedCell → ℤ
last_cross a r = last_of (first_cross a r) (across a r)

-- a place is one of a rectangle's places, part by part
pub record Holds (r : MergedCell) (place : Position) : Type 0 where
  pub row_low : r.row ≤ℤ place.row
  pub row_high : place.row ≤ℤ last_row r
  pub column_low : r.column ≤ℤ place.column
  pub column_high : place.column ≤ℤ last_column r

-- two rectangles meet, part by part
pub record Meets (r s : MergedCell) : Type 0 where
  pub rows_here : r.row ≤ℤ last_row s
  pub rows_there : s.row ≤ℤ last_row r
  pub columns_here : r.column ≤ℤ last_column s
  pub columns_there : s.column ≤ℤ last_column r

-- ---- tests and what they say

both : (a b : Bool) → (a && b) ≡ true → (a ≡ true) × (b ≡ true)
both true b h = (refl, h)
both false b h = absurd (let never : ◌≡◌ {A = Bool} false true = h in cc)

both_hold : (a b : Bool) → a ≡ true → b ≡ true → (a && b) ≡ true
both_hold true b h k = k
both_hold false b h k = h

both_turned : (a b : Bool) → (a && b) ≡ (b && a)
both_turned true true = refl
both_turned true false = refl
both_turned false true = refl
both_turned false false = refl

one_turned : (a b : Bool) → (a || b) ≡ (b || a)
one_turned true true = refl
one_turned true false = refl
one_turned false true = refl
one_turned false false = refl

le : (m n : ℤ) → int_le m n ≡ true → m ≤ℤ n
le m n h = grind (arith, ints)

le_test : (m n : ℤ) → m ≤ℤ n → int_le m n ≡ true
le_test m n h = grind (arith, ints)

stands : (last first count : ℤ) → are_lines_inside last first count ≡ true → (pos 1 ≤ℤ first) × (pos 1 ≤ℤ count) × (last_of first count ≤ℤ last)
stands last first count h =
    let p = both (int_le (pos 1) first) (int_le (pos 1) count && int_le (last_of first count) last) h in
    let q = both (int_le (pos 1) count) (int_le (last_of first count) last) p.1 in
    (le (pos 1) first p.0, le (pos 1) count q.0, le (last_of first count) last q.1)

-- a rectangle that passes the test is inside
pub inside_found : (r : MergedCell) → is_inside r ≡ true → IsInside r
unfolding is_inside
inside_found r h =
    let p = both (are_lines_inside (pos 1048576) r.row r.height) (are_lines_inside (pos 16384) r.column r.width) h in
    let in_rows = stands (pos 1048576) r.row r.height p.0 in
    let in_columns = stands (pos 16384) r.column r.width p.1 in
    let row_high : r.row ≤ℤ pos 1048576 = omega (arith, ints) in
    let column_high : r.column ≤ℤ pos 16384 = omega (arith, ints) in
    let last_row_low : pos 1 ≤ℤ last_row r = omega (arith, ints) in
    let last_column_low : pos 1 ≤ℤ last_column r = omega (arith, ints) in
    record {
      wide = in_columns.1;
      high = in_rows.1;
      first = ((in_rows.0, row_high), (in_columns.0, column_high));
      last = ((last_row_low, in_rows.2), (last_column_low, in_columns.2));
    }

-- one that is inside passes it
pub inside_passes : (r : MergedCell) → IsInside r → is_inside r ≡ true
unfolding is_inside
inside_passes r h =
    both_hold (are_lines_inside (pos 1048576) r.row r.height) (are_lines_inside (pos 16384) r.column r.width)
    (standing (pos 1048576) r.row r.height h.first.0.0 h.high h.last.0.1)
    (standing (pos 16384) r.column r.width h.first.1.0 h.wide h.last.1.1)
  where
    standing : (last first count : ℤ) → pos 1 ≤ℤ first → pos 1 ≤ℤ count → last_of first count ≤ℤ last → are_lines_inside last first count ≡ true
    standing last first count a b c =
        both_hold (int_le (pos 1) first) (int_le (pos 1) count && int_le (last_of first count) last) (le_test (pos 1) first a)
        (both_hold (int_le (pos 1) count) (int_le (last_of first count) last) (le_test (pos 1) count b) (le_test (last_of first count) last c))

between_is : (first last line : ℤ) → is_between first last line ≡ true → (first ≤ℤ line) × (line ≤ℤ last)
between_is first last line h = let p = both (int_le first line) (int_le line last) h in (le first line p.0, le line last p.1)

between_passes : (first last line : ℤ) → first ≤ℤ line → line ≤ℤ last → is_between first last line ≡ true
between_passes first last line a b = both_hold (int_le first line) (int_le line last) (le_test first line a) (le_test line last b)

-- what the test of a place says, and back
pub holds_found : (r : MergedCell) (place : Position) → holds r place ≡ true → Holds r place
unfolding holds
holds_found r place h =
    let p = both (is_between r.row (last_row r) place.row) (is_between r.column (last_column r) place.column) h in
    let in_rows = between_is r.row (last_row r) place.row p.0 in
    let in_columns = between_is r.column (last_column r) place.column p.1 in
    record { row_low = in_rows.0; row_high = in_rows.1; column_low = in_columns.0; column_high = in_columns.1 }

pub holds_passes : (r : MergedCell) (place : Position) → Holds r place → holds r place ≡ true
unfolding holds
holds_passes r place h =
    both_hold (is_between r.row (last_row r) place.row) (is_between r.column (last_column r) place.column)
    (between_passes r.row (last_row r) place.row h.row_low h.row_high) (between_passes r.column (last_column r) place.column h.column_low h.column_high)

-- what the test of two rectangles says, and back
pub meets_found : (r s : MergedCell) → meets r s ≡ true → Meets r s
unfolding meets
meets_found r s h =
    let p = both (overlap r.row (last_row r) s.row (last_row s)) (overlap r.column (last_column r) s.column (last_column s)) h in
    let in_rows = both (int_le r.row (last_row s)) (int_le s.row (last_row r)) p.0 in
    let in_columns = both (int_le r.column (last_column s)) (int_le s.column (last_column r)) p.1 in
    record {
      rows_here = le r.row (last_row s) in_rows.0;
      rows_there = le s.row (last_row r) in_rows.1;
      columns_here = le r.column (last_column s) in_columns.0;
      columns_there = le s.column (last_column r) in_columns.1;
    }

pub meets_passes : (r s : MergedCell) → Meets r s → meets r s ≡ true
unfolding meets
meets_passes r s h =
    both_hold (overlap r.row (last_row r) s.row (last_row s)) (overlap r.column (last_column r) s.column (last_column s))
    (both_hold (int_le r.row (last_row s)) (int_le s.row (last_row r)) (le_test r.row (last_row s) h.rows_here) (le_test s.row (last_row r) h.rows_there))
    (both_hold (int_le r.column (last_column s)) (int_le s.column (last_column r)) (le_test r.column (last_column s) h.columns_here) (le_test s.column (last_column r) h.columns_there))

-- ---- places that two rectangles share

-- two rectangles that hold one place meet
pub shared_meets : (r s : MergedCell) (place : Position) → holds r place ≡ true → holds s place ≡ true → meets r s ≡ true
shared_meets r s place here there =
    let in_r = holds_found r place here in
    let in_s = holds_found s place there in
    let rows_here : r.row ≤ℤ last_row s = omega (arith, ints) in
    let rows_there : s.row ≤ℤ last_row r = omega (arith, ints) in
    let columns_here : r.column ≤ℤ last_column s = omega (arith, ints) in
    let columns_there : s.column ≤ℤ last_column r = omega (arith, ints) in
    meets_passes r s (record { rows_here = rows_here; rows_there = rows_there; columns_here = columns_here; columns_there = columns_there })

-- a line at or after two, that is one of them
data LaterOf (m n : ℤ) : Type 0 where
  the_second : m ≤ℤ n → LaterOf m n
  the_first : n ≤ℤ m → LaterOf m n

later_of : (m n : ℤ) → LaterOf m n
later_of m n = go (int_le m n) refl
  where
    go : (b : Bool) → int_le m n ≡ b → LaterOf m n
    go true h = the_second (le m n h)
    go false h = the_first (grind (arith, ints))

-- the place that two rectangles which meet both hold
pub record Shared (r s : MergedCell) : Type 0 where
  pub place : Position
  pub here : holds r place ≡ true
  pub there : holds s place ≡ true

-- two rectangles inside the sheet that meet hold one place
pub meets_shared : (r s : MergedCell) → IsInside r → IsInside s → meets r s ≡ true → Shared r s
meets_shared r s in_r in_s h = at_row (later_of r.row s.row)
  where
    m : Meets r s
    m = meets_found r s h

    r_rows : r.row ≤ℤ last_row r
    r_rows = let high = in_r.high in omega (arith, ints)

    s_rows : s.row ≤ℤ last_row s
    s_rows = let high = in_s.high in omega (arith, ints)

    r_columns : r.column ≤ℤ last_column r
    r_columns = let wide = in_r.wide in omega (arith, ints)

    s_columns : s.column ≤ℤ last_column s
    s_columns = let wide = in_s.wide in omega (arith, ints)

    own : (n : ℤ) → n ≤ℤ n
    own n = omega (arith, ints)

    at_place : (row column : ℤ) → r.row ≤ℤ row → row ≤ℤ last_row r → s.row ≤ℤ row → row ≤ℤ last_row s
        → r.column ≤ℤ column → column ≤ℤ last_column r → s.column ≤ℤ column → column ≤ℤ last_column s → Shared r s
    at_place row column a b c d e f g i = record {
      place = record { row = row; column = column };
      here = holds_passes r (record { row = row; column = column }) (record { row_low = a; row_high = b; column_low = e; column_high = f });
      there = holds_passes s (record { row = row; column = column }) (record { row_low = c; row_high = d; column_low = g; column_high = i });
    }

    at_column : (row : ℤ) → r.row ≤ℤ row → row ≤ℤ last_row r → s.row ≤ℤ row → row ≤ℤ last_row s → LaterOf r.column s.column → Shared r s
    at_column row a b c d (the_second later) = at_place row s.column a b c d later m.columns_there (own s.column) s_columns
    at_column row a b c d (the_first later) = at_place row r.column a b c d (own r.column) r_columns later m.columns_here

    at_row : LaterOf r.row s.row → Shared r s
    at_row (the_second later) = at_column s.row later m.rows_there (own s.row) s_rows (later_of r.column s.column)
    at_row (the_first later) = at_column r.row (own r.row) r_rows later m.rows_here (later_of r.column s.column)

-- of two rectangles either meets the other
pub meets_turned : (r s : MergedCell) → meets r s ≡ meets s r
unfolding meets
meets_turned r s = λ i. both_turned (int_le r.row (last_row s)) (int_le s.row (last_row r)) i && both_turned (int_le r.column (last_column s)) (int_le s.column (last_column r)) i

-- a rectangle inside the sheet holds its anchor
pub holds_anchor : (r : MergedCell) → IsInside r → holds r (anchor_place r) ≡ true
holds_anchor r inside =
    let high = inside.high in
    let wide = inside.wide in
    let row_low : r.row ≤ℤ r.row = omega (arith, ints) in
    let row_high : r.row ≤ℤ last_row r = omega (arith, ints) in
    let column_low : r.column ≤ℤ r.column = omega (arith, ints) in
    let column_high : r.column ≤ℤ last_column r = omega (arith, ints) in
    holds_passes r (anchor_place r) (record { row_low = row_low; row_high = row_high; column_low = column_low; column_high = column_high })

-- each place of a rectangle inside the sheet is a place of the sheet
pub held_inside : (r : MergedCell) (place : Position) → IsInside r → holds r place ≡ true → IsPlace place
held_inside r place inside h =
    let at = holds_found r place h in
    let a = inside.first.0.0 in
    let b = inside.first.1.0 in
    let c = inside.last.0.1 in
    let d = inside.last.1.1 in
    let row_low : pos 1 ≤ℤ place.row = omega (arith, ints) in
    let row_high : place.row ≤ℤ pos 1048576 = omega (arith, ints) in
    let column_low : pos 1 ≤ℤ place.column = omega (arith, ints) in
    let column_high : place.column ≤ℤ pos 16384 = omega (arith, ints) in
    ((row_low, row_high), (column_low, column_high))

-- ---- along an axis

-- what holds along both axes holds along an axis
by_axis : (P : Along → Type 0) → P rows → P columns → (a : Along) → IsAxis a → P a
by_axis P of_rows of_columns a is = go is.one_of
  where
    go : (a ≡ rows) ⊎ (a ≡ columns) → P a
    go (inl e) = subst P (sym e) of_rows
    go (inr e) = subst P (sym e) of_columns

-- the last line from a first to a last is that last
span_ends : (first last : ℤ) → last_of first (line_span first last) ≡ last
span_ends first last = omega (arith, ints)

-- so many lines stand from the first to the last of so many
count_spans : (first count : ℤ) → line_span first (last_of first count) ≡ count
count_spans first count = omega (arith, ints)

module _ (a : Along) (is : IsAxis a) where
  -- the lines put in are the lines got, and the cross lines stay
  pub first_put : (r : MergedCell) (first last : ℤ) → first_line a (with_lines a r first last) ≡ first
  first_put r first last = by_axis (λ a. first_line a (with_lines a r first last) ≡ first) refl refl a is

  pub last_put : (r : MergedCell) (first last : ℤ) → last_line a (with_lines a r first last) ≡ last
  last_put r first last = by_axis (λ a. last_line a (with_lines a r first last) ≡ last) (span_ends first last) (span_ends first last) a is

  pub across_stays : (r : MergedCell) (first last : ℤ) → across a (with_lines a r first last) ≡ across a r
  across_stays r first last = by_axis (λ a. across a (with_lines a r first last) ≡ across a r) refl refl a is

  pub first_cross_stays : (r : MergedCell) (first last : ℤ) → first_cross a (with_lines a r first last) ≡ first_cross a r
  first_cross_stays r first last = by_axis (λ a. first_cross a (with_lines a r first last) ≡ first_cross a r) refl refl a is

  pub last_cross_stays : (r : MergedCell) (first last : ℤ) → last_cross a (with_lines a r first last) ≡ last_cross a r
  last_cross_stays r first last = by_axis (λ a. last_cross a (with_lines a r first last) ≡ last_cross a r) refl refl a is

  -- putting a rectangle's own lines changes nothing, and of two puts the second stands
  pub own_lines : (r : MergedCell) → with_lines a r (first_line a r) (last_line a r) ≡ r
  own_lines r =
      by_axis (λ a. with_lines a r (first_line a r) (last_line a r) ≡ r)
      (λ i. record r { height = count_spans r.row r.height i })
      (λ i. record r { width = count_spans r.column r.width i }) a is

  pub put_lines_twice : (r : MergedCell) (first last m n : ℤ) → with_lines a (with_lines a r first last) m n ≡ with_lines a r m n
  put_lines_twice r first last m n = by_axis (λ a. with_lines a (with_lines a r first last) m n ≡ with_lines a r m n) refl refl a is

  -- the lines of a rectangle inside the sheet are inside, in order
  pub first_inside : (r : MergedCell) → IsInside r → IsLine a.last (first_line a r)
  first_inside r inside = by_axis (λ a. IsLine a.last (first_line a r)) inside.first.0 inside.first.1 a is

  pub last_inside : (r : MergedCell) → IsInside r → IsLine a.last (last_line a r)
  last_inside r inside = by_axis (λ a. IsLine a.last (last_line a r)) inside.last.0 inside.last.1 a is

  pub lines_in_order : (r : MergedCell) → IsInside r → first_line a r ≤ℤ last_line a r
  lines_in_order r inside =
      by_axis (λ a. first_line a r ≤ℤ last_line a r) (some_lines r.row r.height inside.high) (some_lines r.column r.width inside.wide) a is
    where
      some_lines : (first count : ℤ) → pos 1 ≤ℤ count → first ≤ℤ last_of first count
      some_lines first count h = omega (arith, ints)

  pub across_some : (r : MergedCell) → IsInside r → pos 1 ≤ℤ across a r
  across_some r inside = by_axis (λ a. pos 1 ≤ℤ across a r) inside.wide inside.high a is

  -- a rectangle inside the sheet that gets lines inside, in order, is inside
  pub put_lines_inside : (r : MergedCell) (first last : ℤ) → IsInside r → IsLine a.last first → IsLine a.last last → first ≤ℤ last → IsInside (with_lines a r first last)
  put_lines_inside r first last inside begins ends order =
      by_axis (λ a. IsLine a.last first → IsLine a.last last → IsInside (with_lines a r first last)) put_rows put_columns a is begins ends
    where
      some : pos 1 ≤ℤ line_span first last
      some = omega (arith, ints)

      put_rows : IsLine (pos 1048576) first → IsLine (pos 1048576) last → IsInside (with_lines rows r first last)
      put_rows f l = record {
        wide = inside.wide;
        high = some;
        first = (f, inside.first.1);
        last = (subst (IsLine (pos 1048576)) (sym (span_ends first last)) l, inside.last.1);
      }

      put_columns : IsLine (pos 16384) first → IsLine (pos 16384) last → IsInside (with_lines columns r first last)
      put_columns f l = record {
        wide = some;
        high = inside.high;
        first = (inside.first.0, f);
        last = (inside.last.0, subst (IsLine (pos 16384)) (sym (span_ends first last)) l);
      }

  -- a test of rectangles, by their lines and their cross lines
  pub meets_along : (r s : MergedCell)
      → meets r s ≡ (overlap (first_line a r) (last_line a r) (first_line a s) (last_line a s) && overlap (first_cross a r) (last_cross a r) (first_cross a s) (last_cross a s))
  unfolding meets
  meets_along r s =
      by_axis (λ a. meets r s ≡ (overlap (first_line a r) (last_line a r) (first_line a s) (last_line a s) && overlap (first_cross a r) (last_cross a r) (first_cross a s) (last_cross a s)))
      refl (both_turned (overlap r.row (last_row r) s.row (last_row s)) (overlap r.column (last_column r) s.column (last_column s))) a is

  pub holds_along : (r : MergedCell) (place : Position)
      → holds r place ≡ (is_between (first_line a r) (last_line a r) (a.line place) && is_between (first_cross a r) (last_cross a r) (a.cross place))
  unfolding holds
  holds_along r place =
      by_axis (λ a. holds r place ≡ (is_between (first_line a r) (last_line a r) (a.line place) && is_between (first_cross a r) (last_cross a r) (a.cross place)))
      refl (both_turned (is_between r.row (last_row r) place.row) (is_between r.column (last_column r) place.column)) a is

  pub has_many_along : (r : MergedCell) → has_many r ≡ (int_lt (pos 1) (across a r) || int_lt (pos 1) (line_count a r))
  unfolding has_many
  has_many_along r =
      by_axis (λ a. has_many r ≡ (int_lt (pos 1) (across a r) || int_lt (pos 1) (line_count a r)))
      refl (one_turned (int_lt (pos 1) r.width) (int_lt (pos 1) r.height)) a is
