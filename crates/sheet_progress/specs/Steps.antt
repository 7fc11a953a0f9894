-- Whole numbers that go on by the same step.
use Rattle.std.specs.Prelude.{ℕ, ◌-◌, ◌≤◌, Bool, not, ◌&&◌, ℤ, pos, ◌+ℤ◌, ◌-ℤ◌, ◌*ℤ◌, unsigned_abs, List, [], ◌∷◌, length, slice_index_or, Option, Some, None, if◌then◌else◌}
use Rattle.std.specs.List.{list_all}
use Rattle.std.specs.Ordering.{int_eq}

-- where numbers have come to, and how far each lies from the one before it
pub record Steps : Type 0 where
  pub last : ℤ
  pub step : ℤ

-- the number at an index; the one after the last has index 0
abbrev pub number_at : Steps → ℤ → ℤ
number_at s i = s.last +ℤ (s.step *ℤ (i +ℤ pos 1))

-- how far each number lies from the one before it
abbrev pub differences : List ℤ → List ℤ
differences [] = []
differences (a ∷ []) = []
differences (a ∷ b ∷ numbers) = (b -ℤ a) ∷ differences (b ∷ numbers)

abbrev pub last_number : List ℤ → ℤ
last_number numbers = slice_index_or numbers (length numbers - 1) (pos 0)

-- whether all differences are equal to the step
abbrev pub are_even : ℤ → List ℤ → Bool
are_even step numbers = list_all (λ difference. int_eq difference step) (differences numbers)

-- the step of at least two numbers, if all their steps are equal and not zero
unfoldable pub steps_of : List ℤ → Option Steps
steps_of [] = None
steps_of (a ∷ []) = None
steps_of (a ∷ b ∷ numbers) =
    let step = b -ℤ a in
    if not (int_eq step (pos 0)) && are_even step (a ∷ b ∷ numbers)
    then Some (record { last = last_number (a ∷ b ∷ numbers); step = step })
    else None

-- at most this far from zero
abbrev pub IsWithin : ℕ → ℤ → Type 0
IsWithin most number = unsigned_abs number ≤ most
