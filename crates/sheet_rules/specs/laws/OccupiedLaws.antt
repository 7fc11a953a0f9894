-- What the rules of arrays and merges say, place by place.
use Rattle.std.proofs.Common.{◌≡◌, Bool, true, false, not, ◌&&◌, ◌||◌, List, [], ◌∷◌, Option, Some, None, refl, ap, sym, ◌∙◌}
use Rattle.std.specs.Prelude.{◌≢◌}
use Rattle.std.specs.List.{list_all, list_any}
use Rattle.std.specs.FinMap.{get}
use Rattle.base_values.specs.declared.Position.{Position}
use Rattle.base_values.specs.Places.{position_cmp}
use Rattle.base_values.specs.laws.Places.{position_total, exact_positions}
use Rattle.base_axis.specs.declared.MergedCell.{MergedCell}
use Rattle.base_axis.specs.Rectangles.{is_inside, meets}
use Rattle.base_axis.specs.laws.RectangleLaws.{meets_turned}
use Rattle.sheet_grid.specs.declared.Cell.{Cell}
use Rattle.sheet_grid.specs.Arrays.{array_at, large_array_at}
use Rattle.sheet_grid.specs.Merges.{is_empty}
use Rattle.sheet_grid.specs.Sheet.{Sheet}
use Rattle.sheet_rules.specs.laws.EntryLaws.{both, passes_at_from_all, all_from_passes_at}
use Rattle.sheet_rules.specs.laws.ShownLaws.{neither, not_true, shown_pass, all_pass, apart_in, apart_of, none_in, none_of}
use Rattle.sheet_rules.specs.Occupied.{are_apart, meets_any, have_arrays, is_merge, have_merges, covers, covers_blanks, are_hidden_blank, is_hidden_place}
use Rattle.sheet_rules.specs.laws.ArraysIn.{array_in, large_array_in}

abbrev array_shape : Position → Cell → Option MergedCell
array_shape place cell = array_at place cell.content

abbrev large_shape : Position → Cell → Option MergedCell
large_shape place cell = large_array_at place cell.content

-- each array is inside, and large ones at different places do not meet
pub record KeepsArrays (sheet : Sheet) : Type 0 where
  pub inside : (place : Position) (array : MergedCell) → array_in sheet place ≡ Some array → is_inside array ≡ true
  pub apart : (p q : Position) (r s : MergedCell) → p ≢ q → large_array_in sheet p ≡ Some r → large_array_in sheet q ≡ Some s → meets r s ≡ false

pub keeps_arrays : (sheet : Sheet) → have_arrays sheet ≡ true → KeepsArrays sheet
unfolding have_arrays
keeps_arrays sheet h =
    let parts = both _ _ h in
    record {
      inside = shown_pass position_cmp position_total exact_positions array_shape is_inside sheet.cells parts.0;
      apart = apart_in position_cmp position_total exact_positions large_shape meets meets_turned sheet.cells parts.1;
    }

pub have_arrays_from : (sheet : Sheet) → KeepsArrays sheet → have_arrays sheet ≡ true
unfolding have_arrays
have_arrays_from sheet h =
    λ i. all_pass position_cmp position_total exact_positions array_shape is_inside sheet.cells h.inside i && apart_of position_cmp position_total exact_positions large_shape meets meets_turned sheet.cells h.apart i

-- each merge has two cells or more and is inside, no two meet, and none meets the large array of a place
pub record KeepsMerges (sheet : Sheet) : Type 0 where
  pub merges : list_all is_merge sheet.merges ≡ true
  pub apart : are_apart sheet.merges ≡ true
  pub arrays : (place : Position) (array : MergedCell) → large_array_in sheet place ≡ Some array → meets_any sheet.merges array ≡ false

pub keeps_merges : (sheet : Sheet) → have_merges sheet ≡ true → KeepsMerges sheet
unfolding have_merges
keeps_merges sheet h =
    let parts = both _ _ h in
    let own = both _ _ parts.0 in
    record {
      merges = own.0;
      apart = own.1;
      arrays = none_in position_cmp position_total exact_positions large_shape (meets_any sheet.merges) sheet.cells (not_true _ parts.1);
    }

pub have_merges_from : (sheet : Sheet) → KeepsMerges sheet → have_merges sheet ≡ true
unfolding have_merges
have_merges_from sheet h =
    λ i. h.merges i && h.apart i && not (none_of position_cmp position_total exact_positions large_shape (meets_any sheet.merges) sheet.cells h.arrays i)

-- a content stands at no place that a merge or a large array covers
pub record KeepsHidden (sheet : Sheet) : Type 0 where
  pub merges : (place : Position) (cell : Cell) → get sheet.cells place ≡ Some cell → is_empty cell.content ≡ false → list_any (λ merge. covers merge place) sheet.merges ≡ false
  pub arrays : (p q : Position) (array : MergedCell) (cell : Cell) → large_array_in sheet p ≡ Some array → get sheet.cells q ≡ Some cell → is_empty cell.content ≡ false → covers array q ≡ false

pub or_not : (a b : Bool) → (a || not b) ≡ true → a ≡ false → b ≡ false
or_not false false h is = refl
or_not false true h is = cc
or_not true b h is = cc

either_not : (a b : Bool) → (a ≡ false → b ≡ false) → (a || not b) ≡ true
either_not true b h = refl
either_not false b h = λ i. not (h refl i)

module _ (sheet : Sheet) where
  abbrev passes : MergedCell → Position → Option Cell → Bool
  passes r place None = true
  passes r place (Some cell) = is_empty cell.content || not (covers r place)

  -- a rectangle that covers blanks covers no content
  pub uncovered : (r : MergedCell) → covers_blanks sheet r ≡ true → (place : Position) (cell : Cell) → get sheet.cells place ≡ Some cell → is_empty cell.content ≡ false → covers r place ≡ false
  uncovered r h place cell found filled =
      or_not (is_empty cell.content) (covers r place) (sym (ap (passes r place) found) ∙ passes_at_from_all position_cmp position_total exact_positions (passes r) (λ _. refl) sheet.cells h place) filled

  pub covers_blanks_from : (r : MergedCell) → ((place : Position) (cell : Cell) → get sheet.cells place ≡ Some cell → is_empty cell.content ≡ false → covers r place ≡ false) → covers_blanks sheet r ≡ true
  covers_blanks_from r each = all_from_passes_at position_cmp position_total exact_positions (passes r) (λ _. refl) sheet.cells (λ place. go place (get sheet.cells place) refl)
    where
      go : (place : Position) (o : Option Cell) → get sheet.cells place ≡ o → passes r place o ≡ true
      go place None found = refl
      go place (Some cell) found = either_not (is_empty cell.content) (covers r place) (each place cell found)

  -- so it is with each of a list
  all_uncovered : (rs : List MergedCell) → list_all (covers_blanks sheet) rs ≡ true → (place : Position) (cell : Cell) → get sheet.cells place ≡ Some cell → is_empty cell.content ≡ false → list_any (λ r. covers r place) rs ≡ false
  all_uncovered [] h place cell found filled = refl
  all_uncovered (r ∷ rs) h place cell found filled =
      let parts = both _ _ h in
      λ i. uncovered r parts.0 place cell found filled i || all_uncovered rs parts.1 place cell found filled i

  all_cover_blanks : (rs : List MergedCell) → ((place : Position) (cell : Cell) → get sheet.cells place ≡ Some cell → is_empty cell.content ≡ false → list_any (λ r. covers r place) rs ≡ false) → list_all (covers_blanks sheet) rs ≡ true
  all_cover_blanks [] each = refl
  all_cover_blanks (r ∷ rs) each =
      λ i. covers_blanks_from r (λ place cell found filled. (neither _ _ (each place cell found filled)).0) i
      && all_cover_blanks rs (λ place cell found filled. (neither _ _ (each place cell found filled)).1) i

  pub keeps_hidden : are_hidden_blank sheet ≡ true → KeepsHidden sheet
  unfolding are_hidden_blank
  keeps_hidden h =
      let parts = both _ _ h in
      record {
        merges = all_uncovered sheet.merges parts.0;
        arrays = λ p q array cell at. uncovered array (shown_pass position_cmp position_total exact_positions large_shape (covers_blanks sheet) sheet.cells parts.1 p array at) q cell;
      }

  pub are_hidden_blank_from : KeepsHidden sheet → are_hidden_blank sheet ≡ true
  unfolding are_hidden_blank
  are_hidden_blank_from h =
      λ i. all_cover_blanks sheet.merges h.merges i
      && all_pass position_cmp position_total exact_positions large_shape (covers_blanks sheet) sheet.cells (λ p array at. covers_blanks_from array (λ q cell. h.arrays p q array cell at)) i

  -- a place that is not hidden is covered by no merge and by no large array
  pub merges_apart_from : (place : Position) → is_hidden_place sheet place ≡ false → list_any (λ merge. covers merge place) sheet.merges ≡ false
  unfolding is_hidden_place
  merges_apart_from place h = (neither _ _ h).0

  pub arrays_apart_from : (place : Position) → is_hidden_place sheet place ≡ false → (p : Position) (array : MergedCell) → large_array_in sheet p ≡ Some array → covers array place ≡ false
  unfolding is_hidden_place
  arrays_apart_from place h = none_in position_cmp position_total exact_positions large_shape (λ array. covers array place) sheet.cells (neither _ _ h).1

  pub shown_place : (place : Position) → list_any (λ merge. covers merge place) sheet.merges ≡ false → ((p : Position) (array : MergedCell) → large_array_in sheet p ≡ Some array → covers array place ≡ false) → is_hidden_place sheet place ≡ false
  unfolding is_hidden_place
  shown_place place merges arrays = λ i. merges i || none_of position_cmp position_total exact_positions large_shape (λ array. covers array place) sheet.cells arrays i

  -- so no content stands at a hidden place
  pub content_shown : KeepsHidden sheet → (place : Position) (cell : Cell) → get sheet.cells place ≡ Some cell → is_empty cell.content ≡ false → is_hidden_place sheet place ≡ false
  content_shown h place cell found filled = shown_place place (h.merges place cell found filled) (λ p array at. h.arrays p place array cell at found filled)
