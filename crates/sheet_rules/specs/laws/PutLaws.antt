-- A cell that is no array and hides no content, put at a place, keeps the rules of arrays and merges.
use Rattle.std.proofs.Common.{◌≡◌, Bool, true, false, cond, Option, Some, None, refl, ap, sym, subst, ◌∙◌}
use Rattle.std.specs.Prelude.{is_none}
use Rattle.std.specs.Option.{option_and_then}
use Rattle.std.specs.List.{list_any}
use Rattle.std.specs.Ordering.{eq_by_cmp}
use Rattle.std.specs.FinMap.{get}
use Rattle.base_values.specs.laws.KeyMap.{get-with_entry}
use Rattle.base_values.specs.declared.Position.{Position}
use Rattle.base_values.specs.Places.{position_cmp}
use Rattle.base_values.specs.laws.Places.{position_total, exact_positions}
use Rattle.base_axis.specs.declared.MergedCell.{MergedCell}
use Rattle.sheet_grid.specs.declared.Cell.{Cell}
use Rattle.sheet_grid.specs.Arrays.{array_at, large_array_at, where_large}
use Rattle.sheet_grid.specs.Merges.{is_empty}
use Rattle.sheet_grid.specs.Sheet.{Sheet, with_cell}
use Rattle.sheet_rules.specs.laws.EntryLaws.{both, equal}
use Rattle.sheet_rules.specs.Occupied.{have_arrays, have_merges, are_hidden_blank, covers, is_hidden_place, may_stand}
use Rattle.sheet_rules.specs.laws.ArraysIn.{array_in, large_array_in}
use Rattle.sheet_rules.specs.laws.OccupiedLaws.{keeps_arrays, have_arrays_from, keeps_merges, have_merges_from, keeps_hidden, are_hidden_blank_from, merges_apart_from, arrays_apart_from, or_not}
use Rattle.sheet_rules.specs.laws.ShownLaws.{no_value}

-- positions that compare alike are one
same_place : (p q : Position) → eq_by_cmp position_cmp p q ≡ true → p ≡ q
same_place p q is = exact_positions p q (equal (position_cmp p q) is)

no_array : (place : Position) (o : Option Cell) → option_and_then (λ cell. array_at place cell.content) o ≡ None → option_and_then (λ cell. large_array_at place cell.content) o ≡ None
no_array place None h = refl
no_array place (Some cell) h = ap where_large h

is_none_of : {A : Type 0} (o : Option A) → is_none o ≡ true → o ≡ None
is_none_of None h = refl
is_none_of (Some x) h = cc

no_array_put : (sheet : Sheet) (place : Position) (entry : Option Cell) → may_stand sheet place entry ≡ true → option_and_then (λ cell. array_at place cell.content) entry ≡ None
no_array_put sheet place None h = refl
no_array_put sheet place (Some cell) h = is_none_of _ (both _ _ h).0

module _ (sheet : Sheet) (place : Position) (entry : Option Cell) (stands : may_stand sheet place entry ≡ true) where
  abbrev next : Sheet
  next = with_cell sheet place entry

  kept_shape : (shape : Position → Cell → Option MergedCell) → option_and_then (shape place) entry ≡ None → (q : Position) (r : MergedCell) → option_and_then (shape q) (get next.cells q) ≡ Some r → option_and_then (shape q) (get sheet.cells q) ≡ Some r
  kept_shape shape none q r at = go (eq_by_cmp position_cmp q place) refl (sym (ap (option_and_then (shape q)) (get-with_entry position_total sheet.cells place entry q)) ∙ at)
    where
      go : (b : Bool) → eq_by_cmp position_cmp q place ≡ b → option_and_then (shape q) (cond b entry (get sheet.cells q)) ≡ Some r → option_and_then (shape q) (get sheet.cells q) ≡ Some r
      go true is it = absurd (no_value r (sym (ap (λ p. option_and_then (shape p) entry) (same_place q place is) ∙ none) ∙ it))
      go false is it = it

  array_kept : (q : Position) (r : MergedCell) → array_in next q ≡ Some r → array_in sheet q ≡ Some r
  array_kept = kept_shape (λ p cell. array_at p cell.content) (no_array_put sheet place entry stands)

  large_kept : (q : Position) (r : MergedCell) → large_array_in next q ≡ Some r → large_array_in sheet q ≡ Some r
  large_kept = kept_shape (λ p cell. large_array_at p cell.content) (no_array place entry (no_array_put sheet place entry stands))

  pub arrays-put : have_arrays sheet ≡ true → have_arrays next ≡ true
  arrays-put h =
      let old = keeps_arrays sheet h in
      have_arrays_from next (record {
        inside = λ q r at. old.inside q r (array_kept q r at);
        apart = λ p q r s differ at_p at_q. old.apart p q r s differ (large_kept p r at_p) (large_kept q s at_q);
      })

  pub merges-put : have_merges sheet ≡ true → have_merges next ≡ true
  merges-put h =
      let old = keeps_merges sheet h in
      have_merges_from next (record { merges = old.merges; apart = old.apart; arrays = λ q r at. old.arrays q r (large_kept q r at) })

  -- a content that stands after it was there, or stands where nothing hides it
  shown : (P : Position → Type 0) → ((q : Position) (cell : Cell) → get sheet.cells q ≡ Some cell → is_empty cell.content ≡ false → P q) → (is_hidden_place sheet place ≡ false → P place)
      → (q : Position) (cell : Cell) → get next.cells q ≡ Some cell → is_empty cell.content ≡ false → P q
  shown P old new q cell found filled = go (eq_by_cmp position_cmp q place) refl (sym (get-with_entry position_total sheet.cells place entry q) ∙ found)
    where
      put : (o : Option Cell) → may_stand sheet place o ≡ true → o ≡ Some cell → is_hidden_place sheet place ≡ false
      put None may is = absurd (no_value cell is)
      put (Some other) may is = let same : other ≡ cell = cc in or_not (is_empty other.content) (is_hidden_place sheet place) (both _ _ may).1 (ap (λ c. is_empty c.content) same ∙ filled)

      go : (b : Bool) → eq_by_cmp position_cmp q place ≡ b → cond b entry (get sheet.cells q) ≡ Some cell → P q
      go true is it = subst P (sym (same_place q place is)) (new (put entry stands it))
      go false is it = old q cell it filled

  pub hidden-put : are_hidden_blank sheet ≡ true → are_hidden_blank next ≡ true
  hidden-put h =
      let old = keeps_hidden sheet h in
      are_hidden_blank_from next (record {
        merges = shown (λ q. list_any (λ merge. covers merge q) sheet.merges ≡ false) old.merges (merges_apart_from sheet place);
        arrays = λ p q array cell at. shown (λ q. covers array q ≡ false) (λ q cell. old.arrays p q array cell (large_kept p array at)) (λ bare. arrays_apart_from sheet place bare p array (large_kept p array at)) q cell;
      })
