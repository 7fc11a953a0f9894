-- What stands in a sheet after a rectangle took away the contents that it covers. Such a sheet keeps each rule.
use Rattle.std.proofs.Common.{◌≡◌, Bool, true, false, not, cond, ◌&&◌, List, [], ◌∷◌, Option, Some, None, option_map, refl, ap, sym, subst, ◌∙◌}
use Rattle.std.specs.Prelude.{IsTrue, IfSome}
use Rattle.std.specs.List.{filter, filter_map, cons_option, list_all}
use Rattle.std.specs.Option.{option_and_then}
use Rattle.std.specs.FinMap.{FinMap, entries, get}
use Rattle.base_values.specs.declared.Position.{Position}
use Rattle.base_values.specs.Places.{position_cmp, same_position, is_place}
use Rattle.base_values.specs.laws.Places.{position_total, exact_positions}
use Rattle.base_axis.specs.declared.MergedCell.{MergedCell}
use Rattle.base_axis.specs.Rectangles.{anchor_place, has_many, holds, meets}
use Rattle.base_axis.specs.laws.RectangleLaws.{inside_found, holds_anchor, shared_meets}
use Rattle.cell_content.specs.declared.Content.{Content}
use Rattle.cell_content.specs.declared.Content.TheVariants.{Array}
use Rattle.sheet_grid.specs.declared.Cell.{Cell}
use Rattle.sheet_grid.specs.Arrays.{array_at, where_large, large_array_at, arrays_of, large_arrays_of}
use Rattle.sheet_grid.specs.laws.FittingCells.{entry_fits_at}
use Rattle.sheet_grid.specs.CanonicalCell.{IsCanonicalCell, CanonicalCells}
use Rattle.sheet_grid.specs.Merges.{is_empty}
use Rattle.sheet_grid.specs.Sheet.{Sheet}
use Rattle.sheet_rules.specs.Occupied.{meets_any, have_arrays, have_merges, covers, are_hidden_blank}
use Rattle.sheet_rules.specs.laws.ArraysIn.{array_in, large_array_in}
use Rattle.sheet_rules.specs.WellFormed.{has_keys_inside, have_trees, has_font, have_attributes}
use Rattle.sheet_rules.specs.laws.EntryLaws.{both}
use Rattle.sheet_rules.specs.laws.OccupiedLaws.{keeps_arrays, have_arrays_from, keeps_merges, have_merges_from, keeps_hidden, are_hidden_blank_from}
use Rattle.sheet_rules.specs.laws.ShownLaws.{no_value, all_pass, none_in}
use Rattle.sheet_rules.specs.laws.WellFormedLaws.{cells_fit_from_trees, have_trees_from_cells_fit}
use Rattle.sheet_history.specs.laws.Entries.{all_entries, entry_holds}
use Rattle.sheet_history.specs.laws.RuleLaws.{KeepsSheetRules}
use Rattle.edit_plans.specs.Blanked.{blank_cell, blanked_cell, blanked}
use Rattle.edit_plans.specs.laws.MappedMaps.{mapped, get-mapped, entries-mapped}

-- a sheet without the contents that a rectangle covers
abbrev pub blanked_sheet : MergedCell → Sheet → Sheet
blanked_sheet r sheet = record sheet { cells = blanked r sheet.cells }

-- ---- what stands at a place

module _ (r : MergedCell) (cells : FinMap position_cmp Cell) where
  -- the cell of a place is the one before, without its content where the rectangle covers the place
  pub get-blanked : (place : Position) → get (blanked r cells) place ≡ option_map (blanked_cell r place) (get cells place)
  unfolding blanked
  get-blanked place = get-mapped position_cmp position_total exact_positions (blanked_cell r) cells place

  -- so it is with the entries
  pub entries-blanked : entries (blanked r cells) ≡ mapped position_cmp position_total exact_positions (blanked_cell r) (entries cells)
  unfolding blanked
  entries-blanked = entries-mapped position_cmp position_total exact_positions (blanked_cell r) cells

  -- the cell that stood at a place
  pub record Was (place : Position) (cell : Cell) : Type 0 where
    pub old : Cell
    pub found : get cells place ≡ Some old
    pub is : cell ≡ blanked_cell r place old

  -- a cell that stands there stood there
  pub was : (place : Position) (cell : Cell) → get (blanked r cells) place ≡ Some cell → Was place cell
  was place cell at = go (get cells place) refl (sym (get-blanked place) ∙ at)
    where
      go : (o : Option Cell) → get cells place ≡ o → option_map (blanked_cell r place) o ≡ Some cell → Was place cell
      go None found is = absurd (no_value cell is)
      go (Some old) found is = let same : blanked_cell r place old ≡ cell = cc in record { old = old; found = found; is = sym same }

-- a content that is left was there, and is not covered
pub left_content : (r : MergedCell) (place : Position) (old : Cell) → is_empty (blanked_cell r place old).content ≡ false
    → (covers r place ≡ false) × (blanked_cell r place old ≡ old)
left_content r place old filled = go (covers r place) refl filled
  where
    go : (b : Bool) → covers r place ≡ b → is_empty (cond b (blank_cell old) old).content ≡ false
        → (covers r place ≡ false) × (blanked_cell r place old ≡ old)
    go true is filled = absurd (let never : true ≡ false = filled in cc)
    go false is filled = (is, ap (λ b. cond b (blank_cell old) old) is)

-- what holds of a cell and of the blank one holds of the one that is left
by_cover : (P : Cell → Type 0) (r : MergedCell) (place : Position) (old : Cell) → P (blank_cell old) → P old → P (blanked_cell r place old)
by_cover P r place old blank kept = elim (covers r place) as (λ b. P (cond b (blank_cell old) old)) [ true ↦ blank | false ↦ kept ]

-- ---- arrays

-- the rectangle of an array begins where the array stands
array_anchor : (place : Position) (content : Content) (array : MergedCell) → array_at place content ≡ Some array → anchor_place array ≡ place
array_anchor place (Array tree width height) array at =
    let same : record { row = place.row; column = place.column; width = width; height = height } ≡ array = cc in
    ap anchor_place (sym same)
array_anchor place content array at = absurd (no_value array at)

pub where_large_is : (o : Option MergedCell) (array : MergedCell) → where_large o ≡ Some array → o ≡ Some array
where_large_is None array at = absurd (no_value array at)
where_large_is (Some found) array at = go (has_many found) at
  where
    go : (b : Bool) → cond b (Some found) None ≡ Some array → Some found ≡ Some array
    go true at = at
    go false at = absurd (no_value array at)

-- what a content shows at a place, where an empty one shows nothing, and what is shown begins there
record IsShape (shape : Position → Content → Option MergedCell) : Type 0 where
  anchor : (place : Position) (content : Content) (array : MergedCell) → shape place content ≡ Some array → anchor_place array ≡ place
  blank : (place : Position) (cell : Cell) → shape place (blank_cell cell).content ≡ None

arrays : IsShape array_at
arrays = record { anchor = array_anchor; blank = λ _ _. refl }

large_arrays : IsShape large_array_at
large_arrays = record {
  anchor = λ place content array at. array_anchor place content array (where_large_is (array_at place content) array at);
  blank = λ _ _. refl;
}

module _ (shape : Position → Content → Option MergedCell) (is : IsShape shape) (r : MergedCell) where
  shown_left : (place : Position) (o : Option Cell) (array : MergedCell)
      → option_and_then (λ (c : Cell). shape place c.content) (option_map (blanked_cell r place) o) ≡ Some array
      → (covers r place ≡ false) × (option_and_then (λ (c : Cell). shape place c.content) o ≡ Some array)
  shown_left place None array at = absurd (no_value array at)
  shown_left place (Some old) array at = go (covers r place) refl at
    where
      go : (b : Bool) → covers r place ≡ b → shape place (cond b (blank_cell old) old).content ≡ Some array
          → (covers r place ≡ false) × (shape place old.content ≡ Some array)
      go true covered it = absurd (no_value array (sym (is.blank place old) ∙ it))
      go false free it = (free, it)

  abbrev keeps : MergedCell → Bool
  keeps array = not (covers r (anchor_place array))

  one_left : (place : Position) (old : Cell) (left kept : List MergedCell) → left ≡ filter keeps kept
      → cons_option (shape place (blanked_cell r place old).content) left ≡ filter keeps (cons_option (shape place old.content) kept)
  one_left place old left kept rest = go (covers r place) refl (shape place old.content) refl
    where
      go : (b : Bool) → covers r place ≡ b → (o : Option MergedCell) → shape place old.content ≡ o
          → cons_option (shape place (cond b (blank_cell old) old).content) left ≡ filter keeps (cons_option o kept)
      go true covered None at = ap (λ o. cons_option o left) (is.blank place old) ∙ rest
      go true covered (Some array) at =
          ap (λ o. cons_option o left) (is.blank place old) ∙ rest
          ∙ sym (ap (λ b. cond (not b) (array ∷ filter keeps kept) (filter keeps kept)) (ap (covers r) (is.anchor place old.content array at) ∙ covered))
      go false free None at = ap (λ o. cons_option o left) at ∙ rest
      go false free (Some array) at =
          ap (λ o. cons_option o left) at ∙ ap (λ rs. array ∷ rs) rest
          ∙ sym (ap (λ b. cond (not b) (array ∷ filter keeps kept) (filter keeps kept)) (ap (covers r) (is.anchor place old.content array at) ∙ free))

  all_left : (es : List (Position × Cell))
      → filter_map (λ (e : Position × Cell). shape e.0 e.1.content) (mapped position_cmp position_total exact_positions (blanked_cell r) es)
      ≡ filter keeps (filter_map (λ (e : Position × Cell). shape e.0 e.1.content) es)
  all_left [] = refl
  all_left (e ∷ es) = one_left e.0 e.1 _ _ (all_left es)

module _ (r : MergedCell) (sheet : Sheet) where
  -- an array that is left was there, and its place is not covered
  pub array_left : (place : Position) (array : MergedCell) → array_in (blanked_sheet r sheet) place ≡ Some array
      → (covers r place ≡ false) × (array_in sheet place ≡ Some array)
  array_left place array at =
      shown_left array_at arrays r place (get sheet.cells place) array
      (sym (ap (option_and_then (λ (c : Cell). array_at place c.content)) (get-blanked r sheet.cells place)) ∙ at)

  pub large_left : (place : Position) (array : MergedCell) → large_array_in (blanked_sheet r sheet) place ≡ Some array
      → (covers r place ≡ false) × (large_array_in sheet place ≡ Some array)
  large_left place array at =
      shown_left large_array_at large_arrays r place (get sheet.cells place) array
      (sym (ap (option_and_then (λ (c : Cell). large_array_at place c.content)) (get-blanked r sheet.cells place)) ∙ at)

  -- those are left whose first places the rectangle does not cover
  pub arrays-blanked : arrays_of (blanked_sheet r sheet) ≡ filter (λ array. not (covers r (anchor_place array))) (arrays_of sheet)
  arrays-blanked = ap (filter_map (λ (e : Position × Cell). array_at e.0 e.1.content)) (entries-blanked r sheet.cells)
      ∙ all_left array_at arrays r (entries sheet.cells)

  pub large_arrays-blanked : large_arrays_of (blanked_sheet r sheet) ≡ filter (λ array. not (covers r (anchor_place array))) (large_arrays_of sheet)
  large_arrays-blanked = ap (filter_map (λ (e : Position × Cell). large_array_at e.0 e.1.content)) (entries-blanked r sheet.cells)
      ∙ all_left large_array_at large_arrays r (entries sheet.cells)

  all_kept : (test : MergedCell → Bool) (rs : List MergedCell) → list_all test rs ≡ true → filter test rs ≡ rs
  all_kept test [] all = refl
  all_kept test (s ∷ rs) all = let parts = both _ _ all in ap (λ b. cond b (s ∷ filter test rs) (filter test rs)) parts.0
      ∙ ap (λ ss. s ∷ ss) (all_kept test rs parts.1)

  apart_anchor : (array : MergedCell) → holds array (anchor_place array) ≡ true → meets r array ≡ false → covers r (anchor_place array) ≡ false
  apart_anchor array own apart = go (holds r (anchor_place array)) refl
    where
      go : (b : Bool) → holds r (anchor_place array) ≡ b → (b && not (same_position (anchor_place r) (anchor_place array))) ≡ false
      go true there = absurd (let never : true ≡ false = sym (shared_meets r array (anchor_place array) there own) ∙ apart in cc)
      go false there = refl

  -- where it meets no array of more than one cell, all of these are left
  pub large_arrays_kept : have_arrays sheet ≡ true → meets_any (large_arrays_of sheet) r ≡ false
      → large_arrays_of (blanked_sheet r sheet) ≡ large_arrays_of sheet
  large_arrays_kept h none =
      large_arrays-blanked
      ∙ all_kept (λ array. not (covers r (anchor_place array))) (large_arrays_of sheet)
      (all_pass position_cmp position_total exact_positions (λ p (c : Cell). large_array_at p c.content)
      (λ array. not (covers r (anchor_place array))) sheet.cells (λ place array at.
      let large = in_large place (get sheet.cells place) array at in
      ap not (apart_anchor array (holds_anchor array (inside_found array ((keeps_arrays sheet h).inside place array large)))
      (none_in position_cmp position_total exact_positions (λ p (c : Cell). large_array_at p c.content) (meets r) sheet.cells none place array at))))
    where
      in_large : (place : Position) (o : Option Cell) (array : MergedCell)
          → option_and_then (λ (c : Cell). large_array_at place c.content) o ≡ Some array
          → option_and_then (λ (c : Cell). array_at place c.content) o ≡ Some array
      in_large place None array at = absurd (no_value array at)
      in_large place (Some cell) array at = where_large_is (array_at place cell.content) array at

-- ---- numbers and rules

-- canonical numbers stay
pub kept_blanked : (r : MergedCell) (cells : FinMap position_cmp Cell) → CanonicalCells cells → CanonicalCells (blanked r cells)
kept_blanked r cells kept place = subst (λ o. IfSome o IsCanonicalCell) (sym (get-blanked r cells place)) (go (get cells place) (kept place))
  where
    go : (o : Option Cell) → IfSome o IsCanonicalCell → IfSome (option_map (blanked_cell r place) o) IsCanonicalCell
    go None all = tt
    go (Some old) all = by_cover IsCanonicalCell r place old tt all

module _ (r : MergedCell) (sheet : Sheet) where
  abbrev next : Sheet
  next = blanked_sheet r sheet

  arrays_stay : have_arrays sheet ≡ true → have_arrays next ≡ true
  arrays_stay h =
      let old = keeps_arrays sheet h in
      have_arrays_from next (record {
        inside = λ place array at. old.inside place array (array_left r sheet place array at).1;
        apart = λ p q a b differ at_p at_q. old.apart p q a b differ (large_left r sheet p a at_p).1 (large_left r sheet q b at_q).1;
      })

  merges_stay : have_merges sheet ≡ true → have_merges next ≡ true
  merges_stay h =
      let old = keeps_merges sheet h in
      have_merges_from next
      (record { merges = old.merges; apart = old.apart; arrays = λ place array at. old.arrays place array (large_left r sheet place array at).1 })

  -- a content that is left stood there
  pub content_left : (place : Position) (cell : Cell) → get next.cells place ≡ Some cell → is_empty cell.content ≡ false
      → (covers r place ≡ false) × (get sheet.cells place ≡ Some cell)
  content_left place cell found filled =
      let it = was r sheet.cells place cell found in
      let parts = left_content r place it.old (sym (ap (λ (c : Cell). is_empty c.content) it.is) ∙ filled) in
      (parts.0, it.found ∙ ap Some (sym parts.1 ∙ sym it.is))

  hidden_stay : are_hidden_blank sheet ≡ true → are_hidden_blank next ≡ true
  hidden_stay h =
      let old = keeps_hidden sheet h in
      are_hidden_blank_from next (record {
        merges = λ place cell found filled. old.merges place cell (content_left place cell found filled).1 filled;
        arrays = λ p q array cell at found filled. old.arrays p q array cell (large_left r sheet p array at).1 (content_left q cell found filled).1 filled;
      })

  trees_stay : have_trees sheet ≡ true → have_trees next ≡ true
  trees_stay h = have_trees_from_cells_fit next
      (λ place. subst (λ o. IsTrue (entry_fits_at place o)) (sym (get-blanked r sheet.cells place))
      (go place (get sheet.cells place) (cells_fit_from_trees sheet h place)))
    where
      go : (place : Position) (o : Option Cell) → IsTrue (entry_fits_at place o) → IsTrue (entry_fits_at place (option_map (blanked_cell r place) o))
      go place None fits = refl
      go place (Some old) fits = by_cover (λ c. IsTrue (entry_fits_at place (Some c))) r place old refl fits

  cells_inside : list_all (λ (e : Position × Cell). is_place e.0) (entries sheet.cells) ≡ true
      → list_all (λ (e : Position × Cell). is_place e.0) (entries next.cells) ≡ true
  cells_inside h = all_entries position_cmp position_total exact_positions (λ (e : Position × Cell). is_place e.0) next.cells (λ place cell found.
      let it = was r sheet.cells place cell found in
      entry_holds position_cmp position_total exact_positions (λ (e : Position × Cell). is_place e.0) sheet.cells h place it.old it.found)

  inside_stay : has_keys_inside sheet ≡ true → has_keys_inside next ≡ true
  unfolding has_keys_inside
  inside_stay h =
      let outer = both _ _ h in
      let middle = both _ _ outer.0 in
      let inner = both _ _ middle.0 in
      λ i. cells_inside inner.0 i && inner.1 i && middle.1 i && outer.1 i

  fonts_stay : list_all (λ (e : Position × Cell). has_font e.1.style) (entries sheet.cells) ≡ true
      → list_all (λ (e : Position × Cell). has_font e.1.style) (entries next.cells) ≡ true
  fonts_stay h = all_entries position_cmp position_total exact_positions (λ (e : Position × Cell). has_font e.1.style) next.cells (λ place cell found.
      let it = was r sheet.cells place cell found in
      let font : has_font it.old.style ≡ true = entry_holds position_cmp position_total exact_positions
      (λ (e : Position × Cell). has_font e.1.style) sheet.cells h place it.old it.found in
      ap (λ (c : Cell). has_font c.style) it.is ∙ by_cover (λ c. has_font c.style ≡ true) r place it.old font font)

  attributes_stay : have_attributes sheet ≡ true → have_attributes next ≡ true
  unfolding have_attributes
  attributes_stay h = let parts = both _ _ h in λ i. parts.0 i && fonts_stay parts.1 i

  -- a sheet that keeps its rules keeps them without the contents that a rectangle covers
  pub rules_stay : KeepsSheetRules sheet → KeepsSheetRules next
  rules_stay h = record {
    inside = inside_stay h.inside;
    arrays = arrays_stay h.arrays;
    merges = merges_stay h.merges;
    hidden = hidden_stay h.hidden;
    trees = trees_stay h.trees;
    rule_trees = h.rule_trees;
    attributes = attributes_stay h.attributes;
    frozen = h.frozen;
    rule_parts = h.rule_parts;
  }
