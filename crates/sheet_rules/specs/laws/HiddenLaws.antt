-- A place that is not covered, and that no array holds, is not hidden.
use Rattle.std.proofs.Common.{◌≡◌, Bool, true, false, not, cond, ◌&&◌, ◌||◌, List, [], ◌∷◌, Option, Some, None, refl, sym, ◌∙◌}
use Rattle.std.specs.List.{list_any, find}
use Rattle.std.specs.Option.{option_map_or}
use Rattle.base_values.specs.declared.Position.{Position}
use Rattle.base_values.specs.Places.{same_position}
use Rattle.base_axis.specs.declared.MergedCell.{MergedCell}
use Rattle.base_axis.specs.Rectangles.{anchor_place, holds, meets}
use Rattle.base_axis.specs.laws.RectangleLaws.{shared_meets}
use Rattle.sheet_grid.specs.Arrays.{large_arrays_of}
use Rattle.sheet_grid.specs.Merges.{is_covered}
use Rattle.sheet_grid.specs.Sheet.{Sheet}
use Rattle.sheet_rules.specs.Occupied.{are_apart, have_merges, covers, is_hidden_place, array_over}
use Rattle.sheet_rules.specs.laws.EntryLaws.{both}
use Rattle.sheet_rules.specs.laws.ShownLaws.{neither, not_true}
use Rattle.sheet_rules.specs.laws.OccupiedLaws.{keeps_merges}

module _ (place : Position) where
  -- a rectangle that does not meet one that holds the place does not cover it
  elsewhere : (r s : MergedCell) → holds r place ≡ true → meets r s ≡ false → covers s place ≡ false
  elsewhere r s here apart = go (holds s place) refl
    where
      go : (b : Bool) → holds s place ≡ b → (b && not (same_position (anchor_place s) place)) ≡ false
      go true there = absurd (let never : true ≡ false = sym (shared_meets r s place here there) ∙ apart in cc)
      go false there = refl

  all_elsewhere : (r : MergedCell) (rs : List MergedCell) → holds r place ≡ true → list_any (meets r) rs ≡ false → list_any (λ s. covers s place) rs ≡ false
  all_elsewhere r [] here apart = refl
  all_elsewhere r (s ∷ rs) here apart = let parts = neither _ _ apart in λ i. elsewhere r s here parts.0 i || all_elsewhere r rs here parts.1 i

  or_none : (a b : Bool) → b ≡ false → (a || b) ≡ a
  or_none true b h = refl
  or_none false b h = h

  first_or_later : (r : MergedCell) (rs : List MergedCell) (b : Bool) → (b ≡ true → list_any (λ s. covers s place) rs ≡ false) → list_any (λ s. covers s place) rs ≡ is_covered rs place
      → ((b && not (same_position (anchor_place r) place)) || list_any (λ s. covers s place) rs)
      ≡ option_map_or (λ merge. not (same_position (anchor_place merge) place)) (cond b (Some r) (find (λ merge. holds merge place) rs)) false
  first_or_later r rs true none later = or_none _ _ (none refl)
  first_or_later r rs false none later = later

  -- where no two merges meet, one of them covers a place exactly where the one that holds it begins elsewhere
  pub covered_by_one : (merges : List MergedCell) → are_apart merges ≡ true → list_any (λ merge. covers merge place) merges ≡ is_covered merges place
  covered_by_one [] apart = refl
  covered_by_one (r ∷ rs) apart =
      let parts = both _ _ apart in
      first_or_later r rs (holds r place) (λ here. all_elsewhere r rs here (not_true _ parts.0)) (covered_by_one rs parts.1)

  found_or_not : (r : MergedCell) (o : Option MergedCell) (b : Bool) → cond b (Some r) o ≡ None → (b ≡ false) × (o ≡ None)
  found_or_not r o true none = absurd (cc)
  found_or_not r o false none = (refl, none)

  -- where none holds a place, none covers it
  pub uncovered_where_none : (rs : List MergedCell) → find (λ r. holds r place) rs ≡ None → list_any (λ r. covers r place) rs ≡ false
  uncovered_where_none [] none = refl
  uncovered_where_none (r ∷ rs) none =
      let parts = found_or_not r (find (λ s. holds s place) rs) (holds r place) none in
      λ i. (parts.0 i && not (same_position (anchor_place r) place)) || uncovered_where_none rs parts.1 i

  -- so a content may stand where no merge covers and no array holds
  pub shown_where_free : (sheet : Sheet) → have_merges sheet ≡ true → is_covered sheet.merges place ≡ false → array_over sheet place ≡ None → is_hidden_place sheet place ≡ false
  unfolding is_hidden_place
  shown_where_free sheet h uncovered none =
      λ i. (covered_by_one sheet.merges (keeps_merges sheet h).apart ∙ uncovered) i || uncovered_where_none (large_arrays_of sheet) none i
