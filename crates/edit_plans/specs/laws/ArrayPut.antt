-- A cell with an array, put where no other array, no merge and no content is in its way, keeps the rules of arrays and merges.
use Rattle.std.proofs.Common.{◌≡◌, ◌≢◌, ◌⊎◌, inl, inr, Bool, true, false, cond, Some, None, refl, ap, sym, ◌∙◌, true≢false}
use Rattle.std.specs.List.{list_any}
use Rattle.std.specs.Option.{option_and_then}
use Rattle.std.specs.Ordering.{eq_by_cmp}
use Rattle.std.specs.FinMap.{get}
use Rattle.std.proofs.lemmas.Option.{same_Some}
use Rattle.base_values.specs.laws.KeyMap.{get-with_entry}
use Rattle.base_values.specs.declared.Position.{Position}
use Rattle.base_values.specs.Places.{position_cmp}
use Rattle.base_values.specs.laws.Places.{position_total, exact_positions}
use Rattle.base_axis.specs.declared.MergedCell.{MergedCell}
use Rattle.base_axis.specs.Rectangles.{has_many, is_inside, meets}
use Rattle.base_axis.specs.laws.RectangleLaws.{meets_turned}
use Rattle.base_maps.specs.laws.Keys.{one_key, own_key, apart_keys}
use Rattle.sheet_grid.specs.declared.Cell.{Cell}
use Rattle.sheet_grid.specs.Arrays.{array_at, where_large, large_array_at}
use Rattle.sheet_grid.specs.Merges.{is_empty}
use Rattle.sheet_grid.specs.Sheet.{Sheet, with_cell}
use Rattle.sheet_rules.specs.Occupied.{meets_any, have_arrays, have_merges, are_hidden_blank, covers}
use Rattle.sheet_rules.specs.laws.ArraysIn.{array_in, large_array_in}
use Rattle.sheet_rules.specs.laws.OccupiedLaws.{keeps_arrays, have_arrays_from, keeps_merges, have_merges_from, keeps_hidden, are_hidden_blank_from}
use Rattle.sheet_rules.specs.laws.ShownLaws.{no_value}

-- positions are one, or they are two
pub one_or_two : (p q : Position) → (p ≡ q) ⊎ (p ≢ q)
one_or_two p q = go (eq_by_cmp position_cmp p q) refl
  where
    go : (b : Bool) → eq_by_cmp position_cmp p q ≡ b → (p ≡ q) ⊎ (p ≢ q)
    go true hit = inl (one_key position_cmp position_total exact_positions p q hit)
    go false miss = inr (λ same. true≢false (sym (own_key position_cmp position_total exact_positions q) ∙ ap (λ k. eq_by_cmp position_cmp k q) (sym same) ∙ miss))

-- what stands in the way of an array of a sheet: nothing
pub record IsFree (sheet : Sheet) (place : Position) (r : MergedCell) : Type 0 where
  -- no other array of more than one cell
  pub arrays : (q : Position) (array : MergedCell) → q ≢ place → large_array_in sheet q ≡ Some array → (meets r array ≡ false) × (covers array place ≡ false)
  -- no merge
  pub merges : has_many r ≡ true → meets_any sheet.merges r ≡ false
  pub uncovered : list_any (λ merge. covers merge place) sheet.merges ≡ false
  -- no content, and its own place is not one that it covers
  pub blank : (q : Position) (cell : Cell) → q ≢ place → get sheet.cells q ≡ Some cell → is_empty cell.content ≡ false → covers r q ≡ false
  pub first : covers r place ≡ false

module _ (sheet : Sheet) (place : Position) (cell : Cell) (r : MergedCell) (shows : array_at place cell.content ≡ Some r) (free : IsFree sheet place r) where
  abbrev next : Sheet
  next = with_cell sheet place (Some cell)

  pub put_here : get next.cells place ≡ Some cell
  put_here =
      get-with_entry position_total sheet.cells place (Some cell) place
      ∙ ap (λ b. cond b (Some cell) (get sheet.cells place)) (own_key position_cmp position_total exact_positions place)

  pub put_elsewhere : (q : Position) → (q ≢ place) → get next.cells q ≡ get sheet.cells q
  put_elsewhere q other =
      get-with_entry position_total sheet.cells place (Some cell) q
      ∙ ap (λ b. cond b (Some cell) (get sheet.cells q)) (apart_keys position_cmp position_total exact_positions q place other)

  array_here : (q : Position) (array : MergedCell) → q ≡ place → array_in next q ≡ Some array → r ≡ array
  array_here q array same at =
      same_Some r array (sym shows ∙ sym (ap (option_and_then (λ (c : Cell). array_at place c.content)) put_here) ∙ ap (array_in next) (sym same) ∙ at)

  large_here : (q : Position) (array : MergedCell) → q ≡ place → large_array_in next q ≡ Some array → (r ≡ array) × (has_many r ≡ true)
  large_here q array same at =
      go (has_many r) refl (sym (ap where_large shows) ∙ sym (ap (option_and_then (λ (c : Cell). large_array_at place c.content)) put_here) ∙ ap (large_array_in next) (sym same) ∙ at)
    where
      go : (b : Bool) → has_many r ≡ b → cond b (Some r) None ≡ Some array → (r ≡ array) × (has_many r ≡ true)
      go true is it = (same_Some r array it, is)
      go false is it = absurd (no_value array it)

  array_there : (q : Position) (array : MergedCell) → (q ≢ place) → array_in next q ≡ Some array → array_in sheet q ≡ Some array
  array_there q array other at = sym (ap (option_and_then (λ (c : Cell). array_at q c.content)) (put_elsewhere q other)) ∙ at

  large_there : (q : Position) (array : MergedCell) → (q ≢ place) → large_array_in next q ≡ Some array → large_array_in sheet q ≡ Some array
  large_there q array other at = sym (ap (option_and_then (λ (c : Cell). large_array_at q c.content)) (put_elsewhere q other)) ∙ at

  pub array-arrays : is_inside r ≡ true → have_arrays sheet ≡ true → have_arrays next ≡ true
  array-arrays inside h =
      have_arrays_from next (record {
        inside = λ q array at. each q array at (one_or_two q place);
        apart = λ p q a b differ at_p at_q. pair p q a b differ at_p at_q (one_or_two p place) (one_or_two q place);
      })
    where
      each : (q : Position) (array : MergedCell) → array_in next q ≡ Some array → (q ≡ place) ⊎ (q ≢ place) → is_inside array ≡ true
      each q array at (inl same) = ap is_inside (sym (array_here q array same at)) ∙ inside
      each q array at (inr other) = (keeps_arrays sheet h).inside q array (array_there q array other at)

      pair : (p q : Position) (a b : MergedCell) → (p ≢ q) → large_array_in next p ≡ Some a → large_array_in next q ≡ Some b
          → (p ≡ place) ⊎ (p ≢ place) → (q ≡ place) ⊎ (q ≢ place) → meets a b ≡ false
      pair p q a b differ at_p at_q (inl one) (inl two) = absurd (differ (one ∙ sym two))
      pair p q a b differ at_p at_q (inl one) (inr two) =
          ap (λ s. meets s b) (sym (large_here p a one at_p).0)
          ∙ (free.arrays q b two (large_there q b two at_q)).0
      pair p q a b differ at_p at_q (inr one) (inl two) =
          meets_turned a b ∙ ap (λ s. meets s a) (sym (large_here q b two at_q).0)
          ∙ (free.arrays p a one (large_there p a one at_p)).0
      pair p q a b differ at_p at_q (inr one) (inr two) = (keeps_arrays sheet h).apart p q a b differ (large_there p a one at_p) (large_there q b two at_q)

  pub array-merges : have_merges sheet ≡ true → have_merges next ≡ true
  array-merges h = have_merges_from next (record { merges = (keeps_merges sheet h).merges; apart = (keeps_merges sheet h).apart; arrays = λ q array at. each q array at (one_or_two q place) })
    where
      each : (q : Position) (array : MergedCell) → large_array_in next q ≡ Some array → (q ≡ place) ⊎ (q ≢ place) → meets_any sheet.merges array ≡ false
      each q array at (inl same) = let it = large_here q array same at in ap (meets_any sheet.merges) (sym it.0) ∙ free.merges it.1
      each q array at (inr other) = (keeps_merges sheet h).arrays q array (large_there q array other at)

  pub array-hidden : are_hidden_blank sheet ≡ true → are_hidden_blank next ≡ true
  array-hidden h =
      are_hidden_blank_from next (record {
        merges = λ q c found filled. merged q c found filled (one_or_two q place);
        arrays = λ p q array c at found filled. covered p q array c at found filled (one_or_two p place) (one_or_two q place);
      })
    where
      merged : (q : Position) (c : Cell) → get next.cells q ≡ Some c → is_empty c.content ≡ false → (q ≡ place) ⊎ (q ≢ place)
          → list_any (λ merge. covers merge q) sheet.merges ≡ false
      merged q c found filled (inl same) = ap (λ p. list_any (λ merge. covers merge p) sheet.merges) same ∙ free.uncovered
      merged q c found filled (inr other) = (keeps_hidden sheet h).merges q c (sym (put_elsewhere q other) ∙ found) filled

      covered : (p q : Position) (array : MergedCell) (c : Cell) → large_array_in next p ≡ Some array → get next.cells q ≡ Some c → is_empty c.content ≡ false
          → (p ≡ place) ⊎ (p ≢ place) → (q ≡ place) ⊎ (q ≢ place) → covers array q ≡ false
      covered p q array c at found filled (inl one) (inl two) = (λ i. covers (sym (large_here p array one at).0 i) (two i)) ∙ free.first
      covered p q array c at found filled (inl one) (inr two) =
          ap (λ s. covers s q) (sym (large_here p array one at).0)
          ∙ free.blank q c two (sym (put_elsewhere q two) ∙ found) filled
      covered p q array c at found filled (inr one) (inl two) = ap (covers array) two ∙ (free.arrays p array one (large_there p array one at)).1
      covered p q array c at found filled (inr one) (inr two) = (keeps_hidden sheet h).arrays p q array c (large_there p array one at) (sym (put_elsewhere q two) ∙ found) filled
