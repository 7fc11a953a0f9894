-- When two names are equal: where their characters are, after simple case folding of each.
use Rattle.std.proofs.Common.{◌≡◌}
use Rattle.std.specs.Prelude.{ℕ, Bool, List, map}
use Rattle.std.specs.Str.{chars}
use Rattle.ucd_case.specs.CaseFolding.{simple_fold}
use Rattle.base_tables.specs.Tables.{same_text}

-- each character by its simple case folding
abbrev pub folded : List ℕ → List ℕ
folded = map simple_fold

-- the two texts are equal by folding
abbrev pub SameFolded : List ℕ → List ℕ → Type 0
SameFolded a b = folded (chars a) ≡ folded (chars b)

-- whether they are
unfoldable pub same_folded : List ℕ → List ℕ → Bool
same_folded a b = same_text (folded (chars a)) (folded (chars b))
