-- What each step of a walk adds.
use Rattle.std.proofs.Common.{◌≡◌, ◌<◌, Bool, true, false, ◌∷◌, refl, ap, sym, ◌∙◌, arith}
use Rattle.std.specs.Prelude.{◌||◌, if◌then◌else◌}
use Rattle.base_values.specs.declared.Position.{Position}
use Rattle.base_values.specs.Places.{IsPlace}
use Rattle.sheet_grid.specs.Sheet.{Sheet}
use Rattle.sheet_navigation.specs.declared.direction.NavigationDirection.{NavigationDirection}
use Rattle.sheet_navigation.specs.Navigated.{first_filled, last_filled, reached, walk_start, shows_nothing, navigated}
use Rattle.sheet_navigation.specs.Walk.{steps_on, steps_left, walk}
use Rattle.sheet_navigation.proofs.Picks.{first_filled_none, first_filled_next, last_filled_none, last_filled_next}
use Rattle.sheet_navigation.proofs.Walks.{one_step, walk_next, walk_none}

module _ (empty : Position → Bool) (d : NavigationDirection) (p : Position) where
  pub first_at_edge : steps_left d p ≡ 0 → first_filled empty p (walk d p) ≡ p
  first_at_edge h = ap (first_filled empty p) (walk_none d p h) ∙ first_filled_none empty p

  pub last_at_edge : steps_left d p ≡ 0 → last_filled empty p (walk d p) ≡ p
  last_at_edge h = ap (last_filled empty p) (walk_none d p h) ∙ last_filled_none empty p

  module _ (next : Position) (h : IsPlace p) (more : 0 < steps_left d p) (is : next ≡ steps_on d p 1) where
    walk_on : walk d p ≡ next ∷ walk d next
    walk_on = walk_next d p h more ∙ ap (λ q. q ∷ walk d q) (sym is)

    pub nearer : steps_left d next < steps_left d p
    nearer =
        let less = (one_step d p h more).less in
        let same : steps_left d next ≡ steps_left d (steps_on d p 1) = ap (steps_left d) is in
        omega arith

    first_on : first_filled empty p (walk d p) ≡ (if empty next then first_filled empty next (walk d next) else next)
    first_on = ap (first_filled empty p) walk_on ∙ first_filled_next empty p next (walk d next)

    last_on : last_filled empty p (walk d p) ≡ (if empty next then p else last_filled empty next (walk d next))
    last_on = ap (last_filled empty p) walk_on ∙ last_filled_next empty p next (walk d next)

    -- past an empty place the search goes on, and ends at one that is not empty
    pub first_past : empty next ≡ true → first_filled empty next (walk d next) ≡ first_filled empty p (walk d p)
    first_past e = sym (first_on ∙ ap (λ b. if b then first_filled empty next (walk d next) else next) e)

    pub first_found : empty next ≡ false → next ≡ first_filled empty p (walk d p)
    first_found e = sym (first_on ∙ ap (λ b. if b then first_filled empty next (walk d next) else next) e)

    -- a run ends before an empty place, and goes on to one that is not empty
    pub last_found : empty next ≡ true → p ≡ last_filled empty p (walk d p)
    last_found e = sym (last_on ∙ ap (λ b. if b then p else last_filled empty next (walk d next)) e)

    pub last_past : empty next ≡ false → last_filled empty next (walk d next) ≡ last_filled empty p (walk d p)
    last_past e = sym (last_on ∙ ap (λ b. if b then p else last_filled empty next (walk d next)) e)

module _ (sheet : Sheet) (d : NavigationDirection) (place start : Position) (begins : start ≡ walk_start sheet d place) where
  from_start : navigated sheet d place ≡ reached (shows_nothing sheet) start (walk d start)
  unfolding navigated
  from_start = ap (λ s. reached (shows_nothing sheet) s (walk d s)) (sym begins)

  pub reached_start : steps_left d start ≡ 0 → start ≡ navigated sheet d place
  unfolding reached
  reached_start h = sym (from_start ∙ ap (reached (shows_nothing sheet) start) (walk_none d start h))

  module _ (next : Position) (h : IsPlace start) (more : 0 < steps_left d start) (is : next ≡ steps_on d start 1) where
    reached_on : reached (shows_nothing sheet) start (next ∷ walk d next)
        ≡ (if shows_nothing sheet start || shows_nothing sheet next then first_filled (shows_nothing sheet) start (next ∷ walk d next) else last_filled (shows_nothing sheet) start (next ∷ walk d next))
    unfolding reached
    reached_on = refl

    choice : (b : Bool) → b ≡ (shows_nothing sheet start || shows_nothing sheet next) →
        (if b then first_filled (shows_nothing sheet) start (walk d start) else last_filled (shows_nothing sheet) start (walk d start)) ≡ navigated sheet d place
    choice b e =
        let on : walk d start ≡ next ∷ walk d next = walk_on (shows_nothing sheet) d start next h more is in
        (λ i. if e i then first_filled (shows_nothing sheet) start (on i) else last_filled (shows_nothing sheet) start (on i))
        ∙ (sym reached_on ∙ (ap (reached (shows_nothing sheet) start) (sym on) ∙ sym from_start))

    pub reached_first : (b : Bool) → b ≡ (shows_nothing sheet start || shows_nothing sheet next) → b ≡ true → first_filled (shows_nothing sheet) start (walk d start) ≡ navigated sheet d place
    reached_first b e f = ap (λ t. if t then first_filled (shows_nothing sheet) start (walk d start) else last_filled (shows_nothing sheet) start (walk d start)) (sym f) ∙ choice b e

    pub reached_last : (b : Bool) → b ≡ (shows_nothing sheet start || shows_nothing sheet next) → b ≡ false → last_filled (shows_nothing sheet) start (walk d start) ≡ navigated sheet d place
    reached_last b e f = ap (λ t. if t then first_filled (shows_nothing sheet) start (walk d start) else last_filled (shows_nothing sheet) start (walk d start)) (sym f) ∙ choice b e
