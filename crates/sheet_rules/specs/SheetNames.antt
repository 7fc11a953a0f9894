-- Which texts may be the name of a sheet.
use Rattle.std.specs.Prelude.{ℕ, Bool, false, ◌&&◌, ◌||◌, ◌==◌, not, nat_le, List, length, codes, Option, Some, None, slice_get}
use Rattle.std.specs.List.{list_all, list_any, last_or}
use Rattle.std.specs.Str.{chars}

-- one of `: \ / ? * [ ]`
abbrev pub is_forbidden : ℕ → Bool
is_forbidden c = list_any (λ d. c == d) (codes ":\\/?*[]")

abbrev pub is_apostrophe : Option ℕ → Bool
is_apostrophe None = false
is_apostrophe (Some c) = c == 39

-- an apostrophe is its first or its last character
abbrev pub has_outer_apostrophe : List ℕ → Bool
has_outer_apostrophe name = is_apostrophe (slice_get name 0) || is_apostrophe (last_or None name)

-- 1 to 31 characters
abbrev pub has_length : List ℕ → Bool
has_length name = nat_le 1 (length name) && nat_le (length name) 31

-- 1 to 31 characters, none of them forbidden, and no apostrophe at an end
unfoldable pub is_sheet_name : List ℕ → Bool
is_sheet_name name = has_length (chars name) && list_all (λ c. not (is_forbidden c)) (chars name) && not (has_outer_apostrophe (chars name))
