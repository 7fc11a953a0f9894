-- Lists of texts, of which each is to have a number.
use Rattle.std.specs.Prelude.{ℕ, ℤ, List, [], ◌∷◌, map, String, string_bytes, Option, Some, None}
use Rattle.std.specs.Option.{option_map, option_and_then}
use Rattle.sheet_progress.specs.Steps.{Steps, steps_of}

-- the bytes of each text
abbrev pub texts : {A : Type 0} → List (String A) → List (List ℕ)
texts values = map string_bytes values

-- the item before those that follow, if all are there
abbrev pub joined : {A : Type 0} → Option A → Option (List A) → Option (List A)
joined None rest = None
joined (Some x) rest = option_map (λ xs. x ∷ xs) rest

-- what a function gives for each item, if it gives something for all
abbrev pub each : {A B : Type 0} → (A → Option B) → List A → Option (List B)
each f [] = Some []
each f (x ∷ xs) = joined (f x) (each f xs)

-- the steps of the numbers that texts have, if all have one and they have steps
unfoldable pub steps_in : (List ℕ → Option ℤ) → List (List ℕ) → Option Steps
steps_in number_of texts = option_and_then steps_of (each number_of texts)
