-- Plans that go over a target cross line by cross line reach each of its places.
use Rattle.std.proofs.Common.{◌≡◌, ℕ, zero, suc, ◌<◌, ℤ, pos, ◌+ℤ◌, ◌-ℤ◌, ◌≤ℤ◌, Bool, true, false, cond, Option, Some, None, refl, ap, sym, subst, ◌∙◌, arith}
use Rattle.std.proofs.lemmas.Int.{ints}
use Rattle.std.specs.Prelude.{◌==◌, unsigned_abs}
use Rattle.std.specs.Cmp.{unsigned_Decides}
use Rattle.std.specs.FinMap.{FinMap, empty, get}
use Rattle.base_values.specs.declared.Position.{Position}
use Rattle.base_values.specs.Places.{position_cmp}
use Rattle.base_values.specs.laws.Places.{position_total, exact_positions}
use Rattle.base_axis.specs.Along.{Along, IsAxis}
use Rattle.base_axis.specs.Rectangles.{across, first_line, holds, is_between, last_line, last_of, line_count}
use Rattle.base_axis.specs.laws.RectangleLaws.{first_cross, holds_along, last_cross}
use Rattle.base_tables.specs.declared.Language.{Language}
use Rattle.base_tables.specs.declared.Locale.{Locale}
use Rattle.planned_maps.specs.Planned.{planned_places, places_of}
use Rattle.planned_maps.specs.Walks.{count_across, place_across}
use Rattle.planned_maps.specs.laws.PlannedLaws.{earlier, empty_fits, get-planned, goes_nowhere, goes_on, one_done, one_goes, same_plan}
use Rattle.planned_maps.specs.laws.WalkLaws.{GoesOn, IsFit, place_is_in}
use Rattle.sheet_grid.specs.declared.Cell.{Cell}
use Rattle.sheet_grid.specs.declared.Link.{Link}
use Rattle.sheet_grid.specs.Sheet.{Sheet}
use Rattle.sheet_fill.specs.declared.range.FillRange.{FillRange}
use Rattle.sheet_fill.specs.FillRanges.{counted_line, lines, target_place}
use Rattle.sheet_fill.specs.laws.FillWalks.{across_put, targets_put}
use Rattle.sheet_fill.specs.Targets.{cell_at, link_at, place_filled, place_linked, steps}
use Rattle.sheet_fill.specs.Plans.{cells_filled, links_filled}
use Rattle.sheet_fill.specs.laws.LineCounts.{by_axis}
use Rattle.sheet_fill.specs.laws.FilledPlaces.{between_high, between_low, both, counted_back}

-- ---- places by their steps

steps_below : (onwards : Bool) (first count line : ℤ) → first ≤ℤ line → line ≤ℤ last_of first count
    → unsigned_abs (line -ℤ counted_line onwards first (last_of first count) 0) < unsigned_abs count
steps_below true first count line low high = omega (arith, ints)
steps_below false first count line low high = omega (arith, ints)

cross_below : (first count line : ℤ) → first ≤ℤ line → line ≤ℤ last_of first count → unsigned_abs (line -ℤ first) < unsigned_abs count
cross_below first count line low high = omega (arith, ints)

cross_back : (first line : ℤ) → first ≤ℤ line → (first +ℤ pos (unsigned_abs (line -ℤ first))) ≡ line
cross_back first line low = omega (arith, ints)

module _ (a : Along) (is : IsAxis a) (f : FillRange) (q : Position) (held : holds f.target q ≡ true) where
  -- how many cross lines of the target stand before a place of it
  abbrev crossing : ℕ
  crossing = unsigned_abs (a.cross q -ℤ first_cross a f.target)

  on : (is_between (first_line a f.target) (last_line a f.target) (a.line q) ≡ true) × (is_between (first_cross a f.target) (last_cross a f.target) (a.cross q) ≡ true)
  on = both _ _ (sym (holds_along a is f.target q) ∙ held)

  line_low : first_line a f.target ≤ℤ a.line q
  line_low = between_low _ _ _ on.0

  line_high : a.line q ≤ℤ last_line a f.target
  line_high = between_high _ _ _ on.0

  cross_low : first_cross a f.target ≤ℤ a.cross q
  cross_low = between_low _ _ _ on.1

  cross_high : a.cross q ≤ℤ last_cross a f.target
  cross_high = between_high _ _ _ on.1

  pub steps_few : steps a f q < lines a f.target
  steps_few = steps_below f.is_behind (first_line a f.target) (line_count a f.target) (a.line q) line_low line_high

  pub crossing_few : crossing < count_across a f.target
  crossing_few = cross_below (first_cross a f.target) (across a f.target) (a.cross q) cross_low cross_high

  -- a place of the target is its own target
  pub own_target : target_place a f q (steps a f q) ≡ q
  own_target =
      ap (a.with_line q) (counted_back f.is_behind (first_line a f.target) (last_line a f.target) (a.line q) line_low line_high)
      ∙ is.own_line q

  crossed : first_cross a f.target ≤ℤ a.cross q → a.with_line (place_across a f.target (first_line a f.target) crossing) (a.line q) ≡ q
  crossed = by_axis
      (λ a. first_cross a f.target ≤ℤ a.cross q → a.with_line (place_across a f.target (first_line a f.target) (unsigned_abs (a.cross q -ℤ first_cross a f.target))) (a.line q) ≡ q)
      (λ low i. record { row = q.row; column = cross_back f.target.column q.column low i })
      (λ low i. record { row = cross_back f.target.row q.row low i; column = q.column }) a is

  -- the target that stands so many steps from the source, on its cross line
  pub reached : target_place a f (place_across a f.target (first_line a f.target) crossing) (steps a f q) ≡ q
  reached =
      ap (a.with_line (place_across a f.target (first_line a f.target) crossing)) (counted_back f.is_behind (first_line a f.target) (last_line a f.target) (a.line q) line_low line_high)
      ∙ crossed cross_low

-- ---- plans

module _ {X : Type 0} (make : Position → Option X) (a : Along) (f : FillRange) where
  targets_go : (m : FinMap position_cmp X) (at : Position) (count : ℕ) → GoesOn make m (targets_put make a f m at count)
  targets_go m at zero = goes_nowhere position_cmp position_total exact_positions make m
  targets_go m at (suc more) =
      goes_on position_cmp position_total exact_positions make m (targets_put make a f m at more) (targets_put make a f m at (suc more)) (targets_go m at more)
      (one_goes position_cmp position_total exact_positions make (targets_put make a f m at more) (target_place a f at more))

  targets_made : (m : FinMap position_cmp X) → IsFit make m → (at : Position) (count index : ℕ) → index < count
      → get (targets_put make a f m at count) (target_place a f at index) ≡ make (target_place a f at index)
  targets_made m fits at zero index few = absurd (omega arith)
  targets_made m fits at (suc more) index few = go (targets_made m fits at more index) (index == more) refl
    where
      go : (index < more → get (targets_put make a f m at more) (target_place a f at index) ≡ make (target_place a f at index)) → (b : Bool)
          → (index == more) ≡ b
          → get (targets_put make a f m at (suc more)) (target_place a f at index) ≡ make (target_place a f at index)
      go rest true same =
          subst (λ n. get (targets_put make a f m at (suc more)) (target_place a f at n) ≡ make (target_place a f at n))
          (sym ((unsigned_Decides index more).0 same))
          (one_done position_cmp position_total exact_positions make (targets_put make a f m at more) (target_place a f at more)
          ((targets_go m at more).fits fits))
      go rest false other =
          (one_goes position_cmp position_total exact_positions make (targets_put make a f m at more) (target_place a f at more)).kept
          (target_place a f at index) (rest (earlier index more few other))

  across_go : (count : ℕ) → GoesOn make empty (across_put make a f count)
  across_go zero = goes_nowhere position_cmp position_total exact_positions make empty
  across_go (suc more) =
      goes_on position_cmp position_total exact_positions make empty (across_put make a f more) (across_put make a f (suc more)) (across_go more)
      (targets_go (across_put make a f more) (place_across a f.target (first_line a f.target) more) (lines a f.target))

  across_fits : (count : ℕ) → IsFit make (across_put make a f count)
  across_fits count = (across_go count).fits (empty_fits position_cmp position_total exact_positions make)

  -- the target so many steps from the source, on a cross line that so many stand before
  abbrev step_place : ℕ → ℕ → Position
  step_place n index = target_place a f (place_across a f.target (first_line a f.target) index) n

  across_made : (count index : ℕ) → index < count → (n : ℕ) → n < lines a f.target
      → get (across_put make a f count) (step_place n index) ≡ make (step_place n index)
  across_made zero index few n near = absurd (omega arith)
  across_made (suc more) index few n near = go (λ low. across_made more index low n near) (index == more) refl
    where
      go : (index < more → get (across_put make a f more) (step_place n index) ≡ make (step_place n index)) → (b : Bool) → (index == more) ≡ b
          → get (across_put make a f (suc more)) (step_place n index) ≡ make (step_place n index)
      go rest true same =
          subst (λ k. get (across_put make a f (suc more)) (step_place n k) ≡ make (step_place n k)) (sym ((unsigned_Decides index more).0 same))
          (targets_made (across_put make a f more) (across_fits more) (place_across a f.target (first_line a f.target) more) (lines a f.target) n near)
      go rest false other =
          (targets_go (across_put make a f more) (place_across a f.target (first_line a f.target) more) (lines a f.target)).kept (step_place n index)
          (rest (earlier index more few other))

  module _ (is : IsAxis a) (only : (q : Position) (x : X) → make q ≡ Some x → holds f.target q ≡ true) where
    done : (q : Position) → holds f.target q ≡ true → get (across_put make a f (count_across a f.target)) q ≡ make q
    done q held =
        subst (λ p. get (across_put make a f (count_across a f.target)) p ≡ make p) (reached a is f q held)
        (across_made (count_across a f.target) (crossing a is f q held) (crossing_few a is f q held) (steps a f q) (steps_few a is f q held))

    -- the walk makes the map of what is made of the places of the target
    pub walked : across_put make a f (count_across a f.target) ≡ planned_places make f.target
    walked =
        same_plan position_cmp position_total exact_positions make (places_of f.target) (λ q x some. place_is_in f.target q (only q x some))
        (across_put make a f (count_across a f.target)) (across_fits (count_across a f.target)) (λ q x some. done q (only q x some))

-- ---- what a fill plans

passed : {X : Type 0} (b : Bool) (v x : X) → cond b (Some v) None ≡ Some x → b ≡ true
passed true v x h = refl
passed false v x h = absurd (cc)

module _ (a : Along) (f : FillRange) (sheet : Sheet) where
  linked_held : (q : Position) (x : Option Link) → place_linked a f sheet q ≡ Some x → holds f.target q ≡ true
  linked_held q x some = passed (holds f.target q) (link_at a f sheet q) x some

  -- at each place of the target the link that it gets
  pub get-linked : (q : Position) → get (links_filled a f sheet) q ≡ place_linked a f sheet q
  get-linked = get-planned position_cmp position_total exact_positions (place_linked a f sheet) (places_of f.target)
      (λ q x some. place_is_in f.target q (linked_held q x some))

  pub links_walked : IsAxis a → across_put (place_linked a f sheet) a f (count_across a f.target) ≡ links_filled a f sheet
  links_walked is = walked (place_linked a f sheet) a f is linked_held

  module _ (locale : Locale) (language : Language) where
    filled_held : (q : Position) (x : Option Cell) → place_filled a f locale language sheet q ≡ Some x → holds f.target q ≡ true
    filled_held q x some = passed (holds f.target q) (Some (cell_at a f locale language sheet q)) x some

    -- and the cell
    pub get-filled : (q : Position) → get (cells_filled a f locale language sheet) q ≡ place_filled a f locale language sheet q
    get-filled = get-planned position_cmp position_total exact_positions (place_filled a f locale language sheet) (places_of f.target)
        (λ q x some. place_is_in f.target q (filled_held q x some))

    pub cells_walked : IsAxis a → across_put (place_filled a f locale language sheet) a f (count_across a f.target) ≡ cells_filled a f locale language sheet
    cells_walked is = walked (place_filled a f locale language sheet) a f is filled_held
