-- Loops over maps that put more in a plan.
use Rattle.std.proofs.Common.{◌≡◌, ℤ, Bool, true, false, cond, ◌&&◌, List, [], ◌∷◌, Option, refl, ap, sym, subst, ◌∙◌}
use Rattle.std.specs.Prelude.{◌||◌, not}
use Rattle.std.specs.List.{All, fold, list_all}
use Rattle.std.specs.Ordering.{int_cmp}
use Rattle.std.specs.FinMap.{FinMap}
use Rattle.base_values.specs.declared.Position.{Position}
use Rattle.base_values.specs.Places.{IsPlace, position_cmp}
use Rattle.base_axis.specs.declared.MergedCell.{MergedCell}
use Rattle.base_axis.specs.Along.{Along}
use Rattle.planned_maps.specs.laws.PlanWalks.{chosen_put, line_done, line_passes, places_put, put_one}

module _ {X : Type 0} (make : Position → Option X) where
  -- a plan with what is made of the place of an entry
  abbrev pub place_put : {C : Type 0} → FinMap position_cmp X → Position × C → FinMap position_cmp X
  place_put output e = put_one make output e.0

  -- what is made of the places that are left completes the plan
  abbrev pub PlacesLeft : {C : Type 0} → FinMap position_cmp X → FinMap position_cmp X → FinMap position_cmp C → List (Position × C) → Type 0
  PlacesLeft first output places left = fold place_put output left ≡ places_put make first places

  module _ {V : Type 0} (test : V → Bool) (a : Along) (r : MergedCell) where
    -- a plan with what is made of the places of a line that passes a test
    abbrev pub line_put : FinMap position_cmp X → ℤ × V → FinMap position_cmp X
    line_put output e = cond (test e.1) (line_done make a r e.0 output) output

    -- what is made of the lines that are left completes the plan
    abbrev pub LinesLeft : FinMap position_cmp X → FinMap position_cmp X → FinMap int_cmp V → List (ℤ × V) → Type 0
    LinesLeft first output lines left = fold line_put output left ≡ chosen_put make test a r first lines

-- the lines that pass a test, whose places pass another one
abbrev pub line_test : {V : Type 0} → (Position → Bool) → (V → Bool) → Along → MergedCell → ℤ × V → Bool
line_test passes test a r e = not (test e.1) || line_passes passes a r e.0

grouped : (a b c : Bool) → ((a && b) && c) ≡ (a && (b && c))
grouped true b c = refl
grouped false b c = refl

alone : (a : Bool) → (a && true) ≡ a
alone true = refl
alone false = refl

-- a loop that has something left to test
module _ {E : Type 0} (test : E → Bool) {whole : Bool} (before : Bool) {left : List E} (so_far : (before && list_all test left) ≡ whole) where
  -- tests the next
  pub tests_on : (e : E) (rest : List E) {after : Bool} → left ≡ e ∷ rest → after ≡ (before && test e) → (after && list_all test rest) ≡ whole
  tests_on e rest step now =
      ap (λ b. b && list_all test rest) now ∙ grouped before (test e) (list_all test rest) ∙ sym (ap (λ es. before && list_all test es) step) ∙ so_far

  -- and ends with all
  pub tests_end : left ≡ [] → before ≡ whole
  tests_end over = sym (alone before) ∙ sym (ap (λ es. before && list_all test es) over) ∙ so_far

-- a loop that has something left to put
module _ {M E : Type 0} (put : M → E → M) {whole before : M} {left : List E} (so_far : fold put before left ≡ whole) where
  -- puts the next
  pub goes_on : (e : E) (rest : List E) {after : M} → left ≡ e ∷ rest → after ≡ put before e → fold put after rest ≡ whole
  goes_on e rest step now = ap (λ m. fold put m rest) now ∙ sym (ap (fold put before) step) ∙ so_far

  -- and ends with all
  pub ends : left ≡ [] → before ≡ whole
  ends over = sym (ap (fold put before) over) ∙ so_far

-- the entries that are left stand in the sheet where those that they are do
pub all_stand : {C : Type 0} {left all : List (Position × C)} → left ≡ all → All (λ e. IsPlace e.0) all → All (λ e. IsPlace e.0) left
all_stand is stand = subst (All (λ e. IsPlace e.0)) (sym is) stand
