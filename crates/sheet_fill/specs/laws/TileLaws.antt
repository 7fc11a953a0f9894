-- Repetitions of merges of the source: where they lie, and that what they cover repeats what the merges cover.
use Rattle.std.proofs.Common.{◌≡◌, ℕ, suc, ◌+◌, ◌*◌, ◌<◌, ◌≤◌, ◌%◌, ℤ, pos, ◌+ℤ◌, ◌-ℤ◌, ◌≤ℤ◌, Bool, true, false, ◌&&◌, refl, ap, sym, subst, ◌∙◌, arith}
use Rattle.std.proofs.lemmas.Int.{ints}
use Rattle.std.proofs.Math.Nat.{mod-eq_of_lt, mul-add-mod_self_left, mul-le-mul_left, mul-suc}
use Rattle.std.specs.Prelude.{int_le, unsigned_abs, if◌then◌else◌}
use Rattle.std.specs.Ordering.{int_eq}
use Rattle.std.specs.Cmp.{signed_Decides}
use Rattle.base_values.specs.declared.Position.{Position}
use Rattle.base_values.specs.Places.{same_position}
use Rattle.base_axis.specs.declared.MergedCell.{MergedCell}
use Rattle.base_axis.specs.Along.{Along, IsAxis}
use Rattle.base_axis.specs.Rectangles.{IsInside, anchor_place, first_line, holds, is_between, last_column, last_line, last_of, last_row, is_inside_of, line_count, meets, overlap}
use Rattle.base_axis.specs.laws.RectangleLaws.{holds_along, holds_found, holds_passes, meets_along, meets_found, meets_passes}
use Rattle.sheet_fill.specs.declared.range.FillRange.{FillRange}
use Rattle.sheet_fill.specs.FillRanges.{counted_line, lines, source_line, source_place, target_line}
use Rattle.sheet_fill.specs.Targets.{steps}
use Rattle.sheet_fill.specs.Tiles.{offset, shifted, tile}
use Rattle.sheet_fill.specs.laws.LineCounts.{by_axis, lines_is}
use Rattle.sheet_fill.specs.laws.FilledPlaces.{between_high, between_low, both}
use Rattle.sheet_fill.specs.laws.RangedFills.{IsBeside}

le : (m n : ℤ) → int_le m n ≡ true → m ≤ℤ n
le m n h = grind (arith, ints)

le_test : (m n : ℤ) → m ≤ℤ n → int_le m n ≡ true
le_test m n h = grind (arith, ints)

-- ---- rectangles within others

-- a rectangle within another, part by part
pub record Within (r s : MergedCell) : Type 0 where
  pub row_low : s.row ≤ℤ r.row
  pub row_high : last_row r ≤ℤ last_row s
  pub column_low : s.column ≤ℤ r.column
  pub column_high : last_column r ≤ℤ last_column s

pub within_found : (r s : MergedCell) → is_inside_of r s ≡ true → Within r s
unfolding is_inside_of
within_found r s h =
    let p = both _ _ h in
    let in_rows = both _ _ p.0 in
    let in_columns = both _ _ p.1 in
    record { row_low = le _ _ in_rows.0; row_high = le _ _ in_rows.1; column_low = le _ _ in_columns.0; column_high = le _ _ in_columns.1 }

-- what a rectangle within another holds, the other holds
pub held_wider : (r s : MergedCell) (q : Position) → is_inside_of r s ≡ true → holds r q ≡ true → holds s q ≡ true
held_wider r s q within held =
    let w = within_found r s within in
    let h = holds_found r q held in
    let w_row_low = w.row_low in
    let w_row_high = w.row_high in
    let w_column_low = w.column_low in
    let w_column_high = w.column_high in
    let row_low = h.row_low in
    let row_high = h.row_high in
    let column_low = h.column_low in
    let column_high = h.column_high in
    holds_passes s q (record { row_low = omega (arith, ints); row_high = omega (arith, ints); column_low = omega (arith, ints); column_high = omega (arith, ints) })

-- and what meets the first meets the other
pub meets_wider : (p r s : MergedCell) → is_inside_of r s ≡ true → meets p r ≡ true → meets p s ≡ true
meets_wider p r s within met =
    let w = within_found r s within in
    let m = meets_found p r met in
    let w_row_low = w.row_low in
    let w_row_high = w.row_high in
    let w_column_low = w.column_low in
    let w_column_high = w.column_high in
    let rows_here = m.rows_here in
    let rows_there = m.rows_there in
    let columns_here = m.columns_here in
    let columns_there = m.columns_there in
    meets_passes p s (record { rows_here = omega (arith, ints); rows_there = omega (arith, ints); columns_here = omega (arith, ints); columns_there = omega (arith, ints) })

-- a rectangle within one that is inside the sheet does so, if it has a row and a column
pub within_inside : (r s : MergedCell) → is_inside_of r s ≡ true → IsInside s → pos 1 ≤ℤ r.width → pos 1 ≤ℤ r.height → IsInside r
within_inside r s within inside wide high =
    let w = within_found r s within in
    let w_row_low = w.row_low in
    let w_row_high = w.row_high in
    let w_column_low = w.column_low in
    let w_column_high = w.column_high in
    let s_row_low = inside.first.0.0 in
    let s_column_low = inside.first.1.0 in
    let s_row_high = inside.last.0.1 in
    let s_column_high = inside.last.1.1 in
    record {
      wide = wide;
      high = high;
      first = ((omega (arith, ints), omega (arith, ints)), (omega (arith, ints), omega (arith, ints)));
      last = ((omega (arith, ints), omega (arith, ints)), (omega (arith, ints), omega (arith, ints)));
    }

-- ---- rectangles that are shifted along an axis

-- a place so many lines on
abbrev pub shifted_place : Along → ℤ → Position → Position
shifted_place a by q = a.with_line q (a.line q +ℤ by)

same_le : (m n by : ℤ) → int_le (m +ℤ by) (n +ℤ by) ≡ int_le m n
same_le m n by = grind (arith, ints)

same_last : (first count by last : ℤ) → last_of (first +ℤ by) count ≡ last_of first count +ℤ by
same_last first count by last = omega (arith, ints)

no_more : (x : ℤ) → (x +ℤ pos 0) ≡ x
no_more x = omega (arith, ints)

between_shifted : (first count line by : ℤ) → is_between (first +ℤ by) (last_of (first +ℤ by) count) (line +ℤ by) ≡ is_between first (last_of first count) line
between_shifted first count line by =
    (λ i. int_le (first +ℤ by) (line +ℤ by) && int_le (line +ℤ by) (same_last first count by line i))
    ∙ (λ i. same_le first line by i && same_le line (last_of first count) by i)

overlap_shifted : (first count other others by : ℤ)
    → overlap (first +ℤ by) (last_of (first +ℤ by) count) (other +ℤ by) (last_of (other +ℤ by) others)
    ≡ overlap first (last_of first count) other (last_of other others)
overlap_shifted first count other others by =
    (λ i. int_le (first +ℤ by) (same_last other others by other i) && int_le (other +ℤ by) (same_last first count by first i))
    ∙ (λ i. same_le first (last_of other others) by i && same_le other (last_of first count) by i)

module _ (a : Along) (is : IsAxis a) (by : ℤ) where
  -- it holds the places that are shifted so
  pub holds_shifted : (r : MergedCell) (q : Position) → holds (shifted a by r) (shifted_place a by q) ≡ holds r q
  unfolding holds
  holds_shifted r q = by_axis (λ a. holds (shifted a by r) (shifted_place a by q) ≡ holds r q)
      (λ i. between_shifted r.row r.height q.row by i && is_between (no_more r.column i) (last_of (no_more r.column i) r.width) q.column)
      (λ i. is_between (no_more r.row i) (last_of (no_more r.row i) r.height) q.row && between_shifted r.column r.width q.column by i) a is

  -- two that are shifted meet where the two do
  pub meets_shifted : (r s : MergedCell) → meets (shifted a by r) (shifted a by s) ≡ meets r s
  unfolding meets
  meets_shifted r s = by_axis (λ a. meets (shifted a by r) (shifted a by s) ≡ meets r s)
      (λ i. overlap_shifted r.row r.height s.row s.height by i
      && overlap (no_more r.column i) (last_of (no_more r.column i) r.width) (no_more s.column i) (last_of (no_more s.column i) s.width))
      (λ i. overlap (no_more r.row i) (last_of (no_more r.row i) r.height) (no_more s.row i) (last_of (no_more s.row i) s.height)
      && overlap_shifted r.column r.width s.column s.width by i) a is

  pub anchor_shifted : (r : MergedCell) → anchor_place (shifted a by r) ≡ shifted_place a by (anchor_place r)
  anchor_shifted r = by_axis (λ a. anchor_place (shifted a by r) ≡ shifted_place a by (anchor_place r))
      (λ i. record { row = r.row +ℤ by; column = no_more r.column i })
      (λ i. record { row = no_more r.row i; column = r.column +ℤ by }) a is

  pub first_shifted : (r : MergedCell) → first_line a (shifted a by r) ≡ first_line a r +ℤ by
  first_shifted r = by_axis (λ a. first_line a (shifted a by r) ≡ first_line a r +ℤ by) refl refl a is

  pub last_shifted : (r : MergedCell) → last_line a (shifted a by r) ≡ last_line a r +ℤ by
  last_shifted r = by_axis (λ a. last_line a (shifted a by r) ≡ last_line a r +ℤ by) (same_last r.row r.height by by) (same_last r.column r.width by by) a is

-- a rectangle within another lies on lines of it
pub lines_within : (a : Along) (is : IsAxis a) (r s : MergedCell) → is_inside_of r s ≡ true → (first_line a s ≤ℤ first_line a r) × (last_line a r ≤ℤ last_line a s)
lines_within a is r s within =
    let w = within_found r s within in
    by_axis (λ a. (first_line a s ≤ℤ first_line a r) × (last_line a r ≤ℤ last_line a s)) (w.row_low, w.row_high) (w.column_low, w.column_high) a is

-- ---- the repetition that a target is in

next_turn : (period index : ℕ) → period * (index + 1) ≡ period * index + period
next_turn period index = let more : index + 1 ≡ suc index = omega arith in ap (λ n. period * n) more ∙ mul-suc period index

-- the rest of so many steps, of which whole repetitions are taken
turn_of : (period index n rest : ℕ) → rest < period → n ≡ period * index + rest → n % period ≡ rest
turn_of period index n rest few e = ap (λ m. m % period) e ∙ mul-add-mod_self_left period index rest ∙ mod-eq_of_lt few

-- a line so far from a source, in a repetition that so many steps lead to: the rest of its steps, and the line of the source there
record InTurn (onwards : Bool) (first last far line : ℤ) (period taken n : ℕ) : Type 0 where
  rest : ℕ
  few : rest < period
  is : n ≡ taken + rest
  back : counted_line onwards first last rest +ℤ far ≡ line

turn_in : (onwards : Bool) (first count begins ends line nearest : ℤ) (period taken whole : ℕ) → pos period ≡ count → whole ≡ taken + period
    → first ≤ℤ begins → ends ≤ℤ last_of first count → nearest ≡ (if onwards then last_of first count +ℤ pos 1 else first -ℤ pos 1)
    → (begins +ℤ (if onwards then pos whole else pos 0 -ℤ pos whole)) ≤ℤ line → line ≤ℤ (ends +ℤ (if onwards then pos whole else pos 0 -ℤ pos whole))
    → InTurn onwards first (last_of first count) (if onwards then pos whole else pos 0 -ℤ pos whole) line period taken (unsigned_abs (line -ℤ nearest))
turn_in true first count begins ends line nearest period taken whole lines turns low high beside from_here to_here = record {
  rest = unsigned_abs ((line -ℤ nearest) -ℤ pos taken);
  few = omega (arith, ints);
  is = omega (arith, ints);
  back = omega (arith, ints);
}
turn_in false first count begins ends line nearest period taken whole lines turns low high beside from_here to_here = record {
  rest = unsigned_abs ((nearest -ℤ line) -ℤ pos taken);
  few = omega (arith, ints);
  is = omega (arith, ints);
  back = omega (arith, ints);
}

same_place : (p q : Position) → same_position p q ≡ true → p ≡ q
same_place p q h =
    let parts = both (int_eq p.row q.row) (int_eq p.column q.column) h in
    λ i. record { row = (signed_Decides p.row q.row).0 parts.0 i; column = (signed_Decides p.column q.column).0 parts.1 i }

own_place : (q : Position) → same_position q q ≡ true
own_place q = λ i. (signed_Decides q.row q.row).1 refl i && (signed_Decides q.column q.column).1 refl i

module _ (a : Along) (is : IsAxis a) (f : FillRange) (at : IsBeside a f) (index : ℕ) (merge : MergedCell) (within : is_inside_of merge f.source ≡ true) where
  -- how far its repetition is shifted
  abbrev far : ℤ
  far = offset a f index

  module _ (q : Position) (held : holds (tile a f index merge) q ≡ true) where
    on_tile : ((first_line a merge +ℤ far) ≤ℤ a.line q) × (a.line q ≤ℤ (last_line a merge +ℤ far))
    on_tile =
        let parts = both _ _ (sym (holds_along a is (tile a f index merge) q) ∙ held) in (
          subst (λ x. x ≤ℤ a.line q) (first_shifted a is far merge) (between_low _ _ _ parts.0),
          subst (λ x. a.line q ≤ℤ x) (last_shifted a is far merge) (between_high _ _ _ parts.0),
        )

    in_turn : InTurn f.is_behind (first_line a f.source) (last_line a f.source) far (a.line q) (lines a f.source) (lines a f.source * index) (steps a f q)
    in_turn =
        turn_in f.is_behind (first_line a f.source) (line_count a f.source) (first_line a merge) (last_line a merge) (a.line q) (target_line a f 0)
        (lines a f.source) (lines a f.source * index) (lines a f.source * (index + 1)) (lines_is a is f.source at.source) (next_turn (lines a f.source) index)
        (lines_within a is merge f.source within).0 (lines_within a is merge f.source within).1 at.beside on_tile.0 on_tile.1

    source_back : (source_line a f (steps a f q) +ℤ far) ≡ a.line q
    source_back =
        ap (λ n. counted_line f.is_behind (first_line a f.source) (last_line a f.source) n +ℤ far)
        (turn_of (lines a f.source) index (steps a f q) in_turn.rest in_turn.few in_turn.is)
        ∙ in_turn.back

    -- the place that a target of the tile repeats, shifted with the tile, is the target
    pub shifted_back : shifted_place a far (source_place a f q (steps a f q)) ≡ q
    shifted_back =
        ap (λ line. a.with_line (source_place a f q (steps a f q)) (line +ℤ far)) (is.line_put q (source_line a f (steps a f q)))
        ∙ ap (a.with_line (source_place a f q (steps a f q))) source_back
        ∙ is.put_twice q (source_line a f (steps a f q)) (a.line q)
        ∙ is.own_line q

    -- so the merge holds that place
    pub held_back : holds merge (source_place a f q (steps a f q)) ≡ true
    held_back =
        sym (holds_shifted a is far merge (source_place a f q (steps a f q))) ∙ ap (holds (tile a f index merge)) shifted_back ∙ held

    -- and the tile begins where the merge does
    pub begins_back : same_position (anchor_place merge) (source_place a f q (steps a f q)) ≡ true → same_position (anchor_place (tile a f index merge)) q ≡ true
    begins_back same =
        let begins : anchor_place (tile a f index merge) ≡ q =
        anchor_shifted a is far merge ∙ ap (shifted_place a far) (same_place _ _ same) ∙ shifted_back in
        ap (λ p. same_position p q) begins ∙ own_place q

-- ---- repetitions apart

-- lines of a source in two repetitions have none in common
turns_apart : (onwards : Bool) (first count begins ends begins_2 ends_2 : ℤ) (period whole later : ℕ) → pos period ≡ count → whole + period ≤ later
    → first ≤ℤ begins → ends ≤ℤ last_of first count → first ≤ℤ begins_2 → ends_2 ≤ℤ last_of first count
    → (begins +ℤ (if onwards then pos whole else pos 0 -ℤ pos whole)) ≤ℤ (ends_2 +ℤ (if onwards then pos later else pos 0 -ℤ pos later))
    → (begins_2 +ℤ (if onwards then pos later else pos 0 -ℤ pos later)) ≤ℤ (ends +ℤ (if onwards then pos whole else pos 0 -ℤ pos whole)) → ⊥
turns_apart true first count begins ends begins_2 ends_2 period whole later lines more low high low_2 high_2 here there = omega (arith, ints)
turns_apart false first count begins ends begins_2 ends_2 period whole later lines more low high low_2 high_2 here there = omega (arith, ints)

turns_later : (period earlier later : ℕ) → earlier < later → period * (earlier + 1) + period ≤ period * (later + 1)
turns_later period earlier later before =
    let next : earlier + 1 + 1 ≤ later + 1 = omega arith in
    let more : period * (earlier + 1 + 1) ≤ period * (later + 1) = mul-le-mul_left period next in
    subst (λ n. n ≤ period * (later + 1)) (next_turn period (earlier + 1)) more

module _ (a : Along) (is : IsAxis a) (f : FillRange) (inside : IsInside f.source) (earlier later : ℕ) (before : earlier < later)
    (one two : MergedCell) (one_within : is_inside_of one f.source ≡ true) (two_within : is_inside_of two f.source ≡ true) where
  met_not : (b : Bool) → meets (tile a f earlier one) (tile a f later two) ≡ b → b ≡ false
  met_not false met = refl
  met_not true met =
      let parts = both _ _ (sym (meets_along a is (tile a f earlier one) (tile a f later two)) ∙ met) in
      let on_lines = both (int_le (first_line a (tile a f earlier one)) (last_line a (tile a f later two))) (int_le (first_line a (tile a f later two)) (last_line a (tile a f earlier one))) parts.0 in
      absurd (turns_apart f.is_behind (first_line a f.source) (line_count a f.source) (first_line a one) (last_line a one) (first_line a two) (last_line a two)
      (lines a f.source) (lines a f.source * (earlier + 1)) (lines a f.source * (later + 1)) (lines_is a is f.source inside) (turns_later (lines a f.source) earlier later before)
      (lines_within a is one f.source one_within).0 (lines_within a is one f.source one_within).1
      (lines_within a is two f.source two_within).0 (lines_within a is two f.source two_within).1
      (subst (λ x. x ≤ℤ (last_line a two +ℤ offset a f later)) (first_shifted a is (offset a f earlier) one)
      (subst (λ x. first_line a (tile a f earlier one) ≤ℤ x) (last_shifted a is (offset a f later) two) (le _ _ on_lines.0)))
      (subst (λ x. x ≤ℤ (last_line a one +ℤ offset a f earlier)) (first_shifted a is (offset a f later) two)
      (subst (λ x. first_line a (tile a f later two) ≤ℤ x) (last_shifted a is (offset a f earlier) one) (le _ _ on_lines.1))))

  -- repetitions of two merges of the source, one of them further from it, do not meet
  pub repeated_apart : meets (tile a f earlier one) (tile a f later two) ≡ false
  repeated_apart = met_not (meets (tile a f earlier one) (tile a f later two)) refl
