-- Runs of digits, and the numbers that they write.
use Rattle.std.specs.Prelude.{ℕ, Bool, not, true, List, [], ◌∷◌, if◌then◌else◌}
pub use Rattle.base_tables.specs.Word.{is_digit, number_after}

-- the longest front whose bytes pass, and what follows it
abbrev pub span : (ℕ → Bool) → List ℕ → List ℕ × List ℕ
span p [] = ([], [])
span p (b ∷ text) = let s = span p text in if p b then (b ∷ s.0, s.1) else ([], b ∷ text)

-- the list does not begin with a byte that passes
abbrev pub stops : (ℕ → Bool) → List ℕ → Bool
stops p [] = true
stops p (b ∷ text) = not (p b)

-- the number that digits write
abbrev pub number_of : List ℕ → ℕ
number_of digits = number_after 0 digits
