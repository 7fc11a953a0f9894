-- The names of new sheets and of copies.
use Rattle.std.specs.Prelude.{ℕ, zero, suc, ◌+◌, ◌-◌, Bool, List, ◌++◌, length, take, codes, if◌then◌else◌}
use Rattle.std.specs.Fmt.{decimal}
use Rattle.std.specs.List.{list_any}
use Rattle.std.specs.Str.{chars, encode_utf8_all}
use Rattle.base_tables.specs.Folding.{same_folded}

-- one of some names is equal to a text by folding
abbrev pub is_taken : List (List ℕ) → List ℕ → Bool
is_taken names text = list_any (same_folded text) names

-- the least number from first on that is not taken. Among more numbers than there are names one is free
abbrev pub least_free : (ℕ → Bool) → ℕ → ℕ → ℕ
least_free taken first zero = first
least_free taken first (suc names) = if taken first then least_free taken (first + 1) names else first

-- the first text that no name is equal to, of those of the numbers from first on
abbrev pub free_text : (ℕ → List ℕ) → ℕ → List (List ℕ) → List ℕ
free_text text first names = text (least_free (λ n. is_taken names (text n)) first (length names))

-- `Sheet` and a number
abbrev pub sheet_text : ℕ → List ℕ
sheet_text n = codes "Sheet" ++ decimal n

-- the name of a new sheet has the least free number from 1
abbrev pub new_name : List (List ℕ) → List ℕ
new_name names = free_text sheet_text 1 names

-- a blank and a number in parentheses
abbrev pub copy_ending : ℕ → List ℕ
copy_ending n = codes " (" ++ decimal n ++ codes ")"

-- a name, cut so that it has at most 31 characters with such an ending, and that
abbrev pub copy_text : List ℕ → ℕ → List ℕ
copy_text name n = encode_utf8_all (take (31 - length (copy_ending n)) (chars name)) ++ copy_ending n

-- the name of a copy has the least free number from 2
abbrev pub copy_name : List (List ℕ) → List ℕ → List ℕ
copy_name names name = free_text (copy_text name) 2 names
