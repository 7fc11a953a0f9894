-- The place that is picked from a walk, place by place.
use Rattle.std.proofs.Common.{◌≡◌, Bool, true, false, not, List, [], ◌∷◌, Some, cond, refl, ap, ◌∙◌}
use Rattle.std.specs.Prelude.{if◌then◌else◌}
use Rattle.std.specs.List.{find, take_while}
use Rattle.std.specs.Option.{unwrap_or}
use Rattle.std.proofs.lemmas.List.Sums.{take_while-cons}
use Rattle.base_values.specs.declared.Position.{Position}
use Rattle.sheet_navigation.specs.Navigated.{last_place, first_filled, last_filled}

module _ (empty : Position → Bool) (start : Position) where
  pub first_filled_none : first_filled empty start [] ≡ start
  unfolding first_filled
  first_filled_none = refl

  pub last_filled_none : last_filled empty start [] ≡ start
  unfolding last_filled
  last_filled_none = refl

module _ (empty : Position → Bool) (start place : Position) (places : List Position) where
  first_at : (b : Bool) → unwrap_or (cond (not b) (Some place) (find (λ p. not (empty p)) places)) (last_place place places)
      ≡ (if b then unwrap_or (find (λ p. not (empty p)) places) (last_place place places) else place)
  first_at true = refl
  first_at false = refl

  -- the next place is the first one that is not empty, or the first one behind it is
  pub first_filled_next : first_filled empty start (place ∷ places) ≡ (if empty place then first_filled empty place places else place)
  unfolding first_filled
  first_filled_next = first_at (empty place)

  last_at : (b : Bool) (rest : List Position) → last_place start (cond (not b) (place ∷ rest) []) ≡ (if b then start else last_place place rest)
  last_at true rest = refl
  last_at false rest = refl

  -- the run ends before the next place, or goes on with it
  pub last_filled_next : last_filled empty start (place ∷ places) ≡ (if empty place then start else last_filled empty place places)
  unfolding last_filled
  last_filled_next = ap (last_place start) (take_while-cons (λ p. not (empty p)) place places) ∙ last_at (empty place) (take_while (λ p. not (empty p)) places)
