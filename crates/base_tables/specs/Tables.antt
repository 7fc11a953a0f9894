-- Tables of named entries.
use Rattle.std.proofs.Common.{ℕ, Bool, Option, List}
use Rattle.std.specs.Prelude.{nat_eq, map}
use Rattle.std.specs.List.{find}
use Rattle.std.specs.Char.{to_ascii_lowercase}
use Rattle.std.specs.Cmp.Lexicographic.{pointwise}

-- whether two texts are the same
abbrev pub same_text : List ℕ → List ℕ → Bool
same_text = pointwise nat_eq

-- the letters A to Z as small ones
abbrev pub lowered : List ℕ → List ℕ
lowered = map to_ascii_lowercase

-- whether two words are the same but for the case of A to Z
abbrev pub same_word : List ℕ → List ℕ → Bool
same_word a b = same_text (lowered a) (lowered b)

-- the first entry of the table with this name
abbrev pub entry_named : {T : Type 0} → (T → List ℕ) → List T → List ℕ → Option T
entry_named name_of table text = find (λ entry. same_text (name_of entry) text) table
